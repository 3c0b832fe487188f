-- No construction that a table offers is too large: its counts and lengths are words. This is a proof: nothing in it has to be believed.
use Rattle.std.specs.Prelude.{◌≡◌, ℕ, suc, ◌+◌, ◌*◌, ◌≤◌, All, true, false, cond, List, length, Some, None, Ok, Err, Option, Result, nat_le, refl}
use Rattle.std.proofs.Common.{arith, ap}
use Rattle.std.proofs.lemmas.List.Elements.{All-nil, All-cons}
use Rattle.std.specs.Option.{ok_or}
use Rattle.face.specs.declared.faults.Cause.TheVariants.{OutsideTable}
use Rattle.face.specs.declared.faults.Fault.{Fault}
use Rattle.face.specs.declared.keys.Key.{Key}
use Rattle.face.specs.Bounds.{LARGEST, MOST, Within, Bounded}
use Rattle.face.specs.Meaning.{Construction}
use Rattle.math_table.specs.Constructions.{variant_entry, part_entry, variant_list, assembly_parts}
use Rattle.math_table.specs.MathVariants.{covered, construction_offset, located}
use Rattle.math_table.specs.Meanings.{offered, meaning_of, math_meaning}
use Rattle.math_table.specs.Outcomes.{Comes, answer, fault, IfFound, nothing, found, comes_bind, comes_so, comes_on_found, comes_if_zero, comes_via, comes_entries}
use Rattle.math_table.specs.Reading.{LARGEST_WORD, byte_at, fault_at, word, entries}

abbrev Any : {X : Type 0} → X → Type 0
Any x = Unit {0}

any_result : {X : Type 0} (r : Result X Fault) → Comes Any Any r
any_result (Ok x) = answer tt
any_result (Err f) = fault tt

any_option : {X : Type 0} (o : Option X) → IfFound (Unit {0}) Any o
any_option None = nothing tt
any_option (Some x) = found tt

-- as many entries as a word tells, and P of each
abbrev Short : {X : Type 0} → (X → Type 0) → List X → Type 0
Short P xs = All P xs × (length xs ≤ MOST)

module _ (table : List ℕ) (face : ℕ) (key : Key) where
  word_small : (place : ℕ) → Comes Any (λ w. w ≤ LARGEST_WORD) (word table key place)
  word_small place =
      elim (nat_le (place + 2) (length table))
      as (λ b. Comes Any (λ w. w ≤ LARGEST_WORD) (ok_or (cond b (Some (byte_at table place * 256 + byte_at table (place + 1))) None) (fault_at OutsideTable key place)))
      [ true ↦ answer (omega arith) | false ↦ fault tt ]

  variant_small : (place : ℕ) → Comes Any (λ v. v.advance ≤ LARGEST_WORD) (variant_entry table face key place)
  variant_small place =
      comes_bind (word_small place) (λ glyph _.
      comes_bind (word_small (place + 2)) (λ advance small.
      answer (omega arith)))

  part_small : (place : ℕ) → Comes Any (λ p. p.full ≤ LARGEST_WORD) (part_entry table face key place)
  part_small place =
      comes_bind (word_small place) (λ glyph _.
      comes_bind (word_small (place + 2)) (λ start _.
      comes_bind (word_small (place + 4)) (λ end _.
      comes_bind (word_small (place + 6)) (λ full small.
      comes_bind (word_small (place + 8)) (λ flags _.
      answer (omega arith))))))

  entries_short : {X : Type 0} {P : X → Type 0} {read : ℕ → Result X Fault} (size : ℕ) → ((place : ℕ) → Comes Any P (read place))
      → (n place : ℕ) → n ≤ MOST → Comes Any (Short P) (entries read size n place)
  entries_short {P} size reads n place small =
      comes_so (comes_entries size (λ n place xs. All P xs × (length xs ≡ n)) (λ place. (All-nil P, refl)) (λ n place x xs p rest. (All-cons P x xs p rest.0, ap suc rest.1)) reads n place)
      (λ xs all. (all.0, omega arith))

  variants_short : (place : ℕ) → Comes Any (Short (λ v. v.advance ≤ LARGEST_WORD)) (variant_list table face key place)
  variants_short place = comes_bind (word_small (place + 2)) (λ n small. entries_short 4 variant_small n (place + 4) small)

  parts_short : (place offset : ℕ) → Comes Any (Short (λ p. p.full ≤ LARGEST_WORD)) (assembly_parts table face key place offset)
  parts_short place offset =
      comes_if_zero offset
      (λ _. answer (All-nil _, omega arith))
      (λ _. comes_bind (word_small (place + offset + 4)) (λ n small. entries_short 10 part_small n (place + offset + 6) small))

  located_small : Comes Any (IfFound (Unit {0}) (λ l. l.least ≤ LARGEST_WORD)) (located table key)
  located_small =
      comes_via (length table) (λ _. tt) (λ _.
      comes_bind (word_small 8) (λ base _.
      comes_via base (λ _. tt) (λ _.
      comes_bind (word_small base) (λ least small.
      comes_bind (any_result (covered table key base)) (λ o _. comes_on_found (any_option o) (λ _. tt) (λ index _.
      comes_bind (any_result (construction_offset table key base index)) (λ offset _.
      comes_via offset (λ _. tt) (λ _.
      answer (found (omega arith))))))))))

  offered_within : Comes Any (IfFound (Unit {0}) (Within LARGEST_WORD)) (offered table face key)
  offered_within =
      comes_bind located_small (λ o small. comes_on_found small (λ _. tt) (λ l small.
      comes_bind (word_small l.place) (λ assembly _.
      comes_bind (variants_short l.place) (λ variants short.
      comes_bind (parts_short l.place assembly) (λ parts few.
      answer (found (record { limit = omega arith; least = small; advances = short.0; fulls = few.0; variants = short.1; parts = few.1 })))))))

bounded : {r : Result (Option Construction) Fault} → Comes Any (IfFound (Unit {0}) (Within LARGEST_WORD)) r → Bounded LARGEST_WORD (meaning_of r)
bounded (answer (nothing _)) = tt
bounded (answer (found within)) = within
bounded (fault q) = tt

pub bounded_math : (table : List ℕ) (face : ℕ) (key : Key) → Bounded LARGEST_WORD (math_meaning table face key)
bounded_math table face key = bounded (offered_within table face key)

pub word_largest : LARGEST_WORD ≤ LARGEST
word_largest = omega arith
