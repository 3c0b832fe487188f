-- Where the entries of a construction stand: what the code works out before it answers.
-- Nothing here has to be believed, since every answer is equated with Meanings.antt.
use Rattle.std.specs.Prelude.{ℕ, zero, suc, ◌+◌, ◌*◌, if◌then◌else◌, List, Some, None, Ok, Err, Option, Result, ◌==◌, nat_lt, option_and_then}
use Rattle.std.specs.Result.{result_ok}
use Rattle.face.specs.declared.faults.Fault.{Fault}
use Rattle.face.specs.declared.keys.Key.{Key}
use Rattle.face.specs.declared.looks.Look.{Look}
use Rattle.face.specs.declared.parts.Part.{Part}
use Rattle.face.specs.declared.variants.Variant.{Variant}
use Rattle.face.specs.Bounds.{LARGEST}
use Rattle.math_table.specs.declared.found.Found.{Found}
use Rattle.math_table.specs.declared.runs.Run.{Run}
use Rattle.math_table.specs.declared.tables.MathTable.{MathTable}
use Rattle.math_table.specs.Constructions.{variant_entry, part_entry}
use Rattle.math_table.specs.MathVariants.{located}
use Rattle.math_table.specs.Places.{Located, Shape}
use Rattle.math_table.specs.Reading.{word, bind, on_found}

-- n words, one after the other
abbrev pub words_inside : List ℕ → Key → (n place : ℕ) → Result (Unit {0}) Fault
words_inside table key zero place = Ok tt
words_inside table key (suc n) place = bind (word table key place) (λ _. words_inside table key n (place + 2))

module _ (table : List ℕ) (key : Key) where
  -- entries of `words` words each: how many the word at `count` tells, from `first` on
  abbrev pub run : (words count first : ℕ) → Result Run Fault
  run words count first =
      bind (word table key count) (λ n.
      bind (words_inside table key (words * n) first) (λ _. Ok (record { count = n; first = first })))

  abbrev pub part_run : (place offset : ℕ) → Result Run Fault
  part_run place offset =
      if offset == 0 then Ok (record { count = 0; first = 0 }) else run 5 (place + offset + 4) (place + offset + 6)

  abbrev pub shape_at : Located → Result (Option Shape) Fault
  shape_at l =
      bind (word table key l.place) (λ assembly.
      bind (run 2 (l.place + 2) (l.place + 4)) (λ variants.
      bind (part_run l.place assembly) (λ parts.
      Ok (Some (record { least = l.least; variants = variants; parts = parts })))))

  -- the shape of a key's construction
  abbrev pub shaped : Result (Option Shape) Fault
  shaped = bind (located table key) (λ o. on_found o shape_at)

-- what a shape answers to look
abbrev pub shape_look : Result (Option Shape) Fault → Result (Option Look) Fault
shape_look (Err f) = Err f
shape_look (Ok None) = Ok None
shape_look (Ok (Some s)) =
    Ok (Some (record { limit = LARGEST; least = s.least; variants = s.variants.count; parts = s.parts.count }))

-- where the entry of a run at an index begins, if it has so many
abbrev pub place_of : Run → (size index : ℕ) → Option ℕ
place_of r size i = if nat_lt i r.count then Some (r.first + size * i) else None

-- the entry of a run at an index
abbrev pub entry_of : {X : Type 0} → (ℕ → Result X Fault) → ℕ → Run → ℕ → Option X
entry_of read size r i = option_and_then (λ place. result_ok (read place)) (place_of r size i)

module _ (m : MathTable) (key : Key) where
  -- what a shape answers to variant
  abbrev pub shape_variant : Result (Option Shape) Fault → ℕ → Option Variant
  shape_variant (Err f) i = None
  shape_variant (Ok None) i = None
  shape_variant (Ok (Some s)) i = entry_of (variant_entry m.table.now m.face key) 4 s.variants i

  -- .. and to part
  abbrev pub shape_part : Result (Option Shape) Fault → ℕ → Option Part
  shape_part (Err f) i = None
  shape_part (Ok None) i = None
  shape_part (Ok (Some s)) i = entry_of (part_entry m.table.now m.face key) 10 s.parts i

-- the entries that stand where a construction was found
abbrev pub found_variant : MathTable → Found → ℕ → Option Variant
found_variant m found i = entry_of (variant_entry m.table.now m.face found.key) 4 found.variants i

abbrev pub found_part : MathTable → Found → ℕ → Option Part
found_part m found i = entry_of (part_entry m.table.now m.face found.key) 10 found.parts i
