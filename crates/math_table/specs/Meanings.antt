-- What a MATH table means for a key.
use Rattle.std.specs.Prelude.{ℕ, List, Some, None, Ok, Err, Option, Result}
use Rattle.face.specs.declared.faults.Fault.{Fault}
use Rattle.face.specs.declared.keys.Key.{Key}
use Rattle.face.specs.Bounds.{LARGEST}
use Rattle.face.specs.Meaning.{Meaning, unknown, faulty, construction, Construction}
use Rattle.math_table.specs.Places.{Located}
use Rattle.math_table.specs.Constructions.{variant_list, assembly_parts}
use Rattle.math_table.specs.MathVariants.{located}
use Rattle.math_table.specs.Reading.{word, bind, on_found}

module _ (table : List ℕ) (face : ℕ) (key : Key) where
  -- the construction where it is located: assembly offset, variants, parts
  abbrev pub construction_at : Located → Result (Option Construction) Fault
  construction_at l =
      bind (word table key l.place) (λ assembly.
      bind (variant_list table face key l.place) (λ variants.
      bind (assembly_parts table face key l.place assembly) (λ parts.
      Ok (Some (record { limit = LARGEST; least = l.least; variants = variants; parts = parts })))))

  -- what reading the table for the key comes to
  abbrev pub offered : Result (Option Construction) Fault
  offered = bind (located table key) (λ o. on_found o construction_at)

abbrev pub meaning_of : Result (Option Construction) Fault → Meaning
meaning_of (Ok None) = unknown
meaning_of (Ok (Some c)) = construction c
meaning_of (Err f) = faulty f

-- the meaning of a table's bytes, under a face number
abbrev pub math_meaning : List ℕ → ℕ → Key → Meaning
math_meaning table face key = meaning_of (offered table face key)
