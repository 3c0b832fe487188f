-- The shape that the code works out agrees with what the table means.
use Rattle.std.proofs.Common.{◌≡◌, ℕ, zero, suc, ◌+◌, ◌*◌, eqb, List, ◌∷◌, Some, None, Ok, Err, Option, Result, refl, ap, ◌∙◌, mul-zero, mul-suc, arith}
use Rattle.face.specs.declared.faults.Fault.{Fault}
use Rattle.face.specs.declared.keys.Key.{Key}
use Rattle.face.specs.declared.parts.Part.{Part}
use Rattle.face.specs.declared.variants.Variant.{Variant}
use Rattle.face.specs.Bounds.{LARGEST}
use Rattle.face.specs.Meaning.{Construction, looked, variant_at, part_at}
use Rattle.math_table.specs.declared.runs.Run.{Run}
use Rattle.math_table.specs.declared.tables.MathTable.{MathTable}
use Rattle.math_table.specs.Constructions.{variant_entry, part_entry, assembly_parts}
use Rattle.math_table.specs.Making.{meant}
use Rattle.math_table.specs.Meanings.{construction_at, offered, meaning_of}
use Rattle.math_table.specs.MathVariants.{located}
use Rattle.math_table.specs.Places.{Located, Shape}
use Rattle.math_table.specs.Reading.{word, bind, on_found, entries}
use Rattle.math_table.specs.Shapes.{words_inside, run, part_run, shape_at, shaped, shape_look, shape_variant, shape_part}
use Rattle.math_table.proofs.Alike.{Alike, answers, fault, BothFind, nothing, found, alike_bind, alike_first, alike_second, alike_step, alike_if}
use Rattle.math_table.proofs.Indexing.{entries_count, entry_is}

bind_assoc : {X Y Z : Type 0} (r : Result X Fault) (next : X → Result Y Fault) (last : Y → Result Z Fault) → bind r (λ x. bind (next x) last) ≡ bind (bind r next) last
bind_assoc (Ok x) next last = refl
bind_assoc (Err f) next last = refl

-- the list is what is read where the run stands
abbrev Lists : {X : Type 0} → (ℕ → Result X Fault) → ℕ → List X → Run → Type 0
Lists read size xs r = entries read size r.count r.first ≡ Ok xs

module _ (table : List ℕ) (key : Key) where
  -- as far as the words are inside the table, what is read of them is an answer
  abbrev ReadInside : {X : Type 0} → (n place : ℕ) → Result X Fault → Type 0
  ReadInside n place r = Alike (λ _ _. Unit {0}) r (words_inside table key n place)

  word_inside : {X : Type 0} (place at : ℕ) (next : ℕ → Result X Fault) (n : ℕ) → at ≡ place → ((w : ℕ) → ReadInside n (place + 2) (next w)) → ReadInside (suc n) place (bind (word table key at) next)
  word_inside place at next n e so = rw e (alike_step (word table key place) so)

  inside_more : (m n place : ℕ) → words_inside table key (m + n) place ≡ bind (words_inside table key m place) (λ _. words_inside table key n (place + 2 * m))
  inside_more zero n place =
      let none : zero + n ≡ n = omega arith in
      let here : place + 2 * zero ≡ place = omega arith in
      rw (none, here)
  inside_more (suc m) n place =
      let one : suc m + n ≡ suc (m + n) = omega arith in
      let on : place + 2 * suc m ≡ place + 2 + 2 * m = omega arith in
      rw (one, on) (ap (λ all. bind (word table key place) (λ _. all)) (inside_more m n (place + 2)) ∙ bind_assoc (word table key place) _ _)

  module _ {X : Type 0} (read : ℕ → Result X Fault) (k : ℕ) (reads : (place : ℕ) → ReadInside k place (read place)) where
    -- entries of k words each are read exactly where their words are inside the table
    entries_inside : (n place : ℕ) → ReadInside (k * n) place (entries read (2 * k) n place)
    entries_inside zero place = rw mul-zero (answers tt)
    entries_inside (suc n) place =
        let more : k * suc n ≡ k + k * n = omega (arith, mul-suc k n) in
        rw (more, inside_more k (k * n) place)
        (alike_bind (reads place) (λ x _ _. alike_first (λ xs. x ∷ xs) (entries_inside n (place + 2 * k)) (λ _ _ _. tt)))

    run_agrees : (count first : ℕ) → Alike (Lists read (2 * k)) (bind (word table key count) (λ n. entries read (2 * k) n first)) (run table key k count first)
    run_agrees count first = alike_step (word table key count) (λ n. alike_second (λ _. record { count = n; first = first }) (entries_inside n first) (λ xs _ is. is))

module _ (table : List ℕ) (face : ℕ) (key : Key) where
  abbrev variant : ℕ → Result Variant Fault
  variant = variant_entry table face key

  abbrev part : ℕ → Result Part Fault
  part = part_entry table face key

  variant_inside : (place : ℕ) → ReadInside table key 2 place (variant place)
  variant_inside place = word_inside table key place place _ 1 refl (λ _. word_inside table key (place + 2) (place + 2) _ 0 refl (λ _. answers tt))

  part_inside : (place : ℕ) → ReadInside table key 5 place (part place)
  part_inside place =
      word_inside table key place place _ 4 refl (λ _.
      word_inside table key (place + 2) (place + 2) _ 3 refl (λ _.
      word_inside table key (place + 2 + 2) (place + 4) _ 2 (omega arith) (λ _.
      word_inside table key (place + 2 + 2 + 2) (place + 6) _ 1 (omega arith) (λ _.
      word_inside table key (place + 2 + 2 + 2 + 2) (place + 8) _ 0 (omega arith) (λ _. answers tt)))))

  parts_agree : (place offset : ℕ) → Alike (Lists part 10) (assembly_parts table face key place offset) (part_run table key place offset)
  parts_agree place offset = alike_if (eqb offset 0) (answers refl) (run_agrees table key part 5 part_inside (place + offset + 4) (place + offset + 6))

  -- the construction is the one that stands where the shape says
  record StandsAt (c : Construction) (s : Shape) : Type 0 where
    limit : c.limit ≡ LARGEST
    least : c.least ≡ s.least
    variants : Lists variant 4 c.variants s.variants
    parts : Lists part 10 c.parts s.parts

  shape_agrees : (l : Located) → Alike (BothFind StandsAt) (construction_at table face key l) (shape_at table key l)
  shape_agrees l =
      alike_step (word table key l.place) (λ assembly.
      alike_bind (run_agrees table key variant 2 variant_inside (l.place + 2) (l.place + 4)) (λ _ _ variants.
      alike_bind (parts_agree l.place assembly) (λ _ _ parts.
      answers (found (record { limit = refl; least = refl; variants = variants; parts = parts })))))

  agrees : Alike (BothFind StandsAt) (offered table face key) (shaped table key)
  agrees = alike_step (located table key) by where
    by : (o : Option Located) → Alike (BothFind StandsAt) (on_found o (construction_at table face key)) (on_found o (shape_at table key))
    by None = answers nothing
    by (Some l) = shape_agrees l

-- so the shape answers every question
module _ (m : MathTable) (key : Key) where
  abbrev shape : Result (Option Shape) Fault
  shape = shaped m.table.now key

  pub look_agrees : looked (meant m key) ≡ shape_look shape
  look_agrees = by (agrees m.table.now m.face key) where
    by : {r : Result (Option Construction) Fault} {s : Result (Option Shape) Fault} → Alike (BothFind (StandsAt m.table.now m.face key)) r s → looked (meaning_of r) ≡ shape_look s
    by fault = refl
    by (answers nothing) = refl
    by (answers (found is)) =
        let variants = entries_count _ _ _ _ is.variants in
        let parts = entries_count _ _ _ _ is.parts in
        λ i. Ok (Some (record { limit = is.limit i; least = is.least i; variants = variants i; parts = parts i }))

  pub variant_agrees : (i : ℕ) → variant_at (meant m key) i ≡ shape_variant m key shape i
  variant_agrees i = by (agrees m.table.now m.face key) where
    by : {r : Result (Option Construction) Fault} {s : Result (Option Shape) Fault} → Alike (BothFind (StandsAt m.table.now m.face key)) r s → variant_at (meaning_of r) i ≡ shape_variant m key s i
    by fault = refl
    by (answers nothing) = refl
    by (answers (found is)) = entry_is _ _ _ _ is.variants i

  pub part_agrees : (i : ℕ) → part_at (meant m key) i ≡ shape_part m key shape i
  part_agrees i = by (agrees m.table.now m.face key) where
    by : {r : Result (Option Construction) Fault} {s : Result (Option Shape) Fault} → Alike (BothFind (StandsAt m.table.now m.face key)) r s → part_at (meaning_of r) i ≡ shape_part m key s i
    by fault = refl
    by (answers nothing) = refl
    by (answers (found is)) = entry_is _ _ _ _ is.parts i

pub ruleset shape_answers = (look_agrees, variant_agrees, part_agrees)
