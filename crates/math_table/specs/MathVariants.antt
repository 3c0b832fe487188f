-- The way from the header to a key's construction.
use Rattle.std.specs.Prelude.{ℕ, ◌+◌, ◌*◌, if◌then◌else◌, List, length, Some, None, Ok, Err, Option, Result, ◌==◌, nat_lt}
use Rattle.face.specs.declared.faults.Cause.TheVariants.{CoverageIndex}
use Rattle.face.specs.declared.faults.Fault.{Fault}
use Rattle.face.specs.declared.keys.Axis.{Axis}
use Rattle.face.specs.declared.keys.Axis.TheVariants.{Upright, Level}
use Rattle.face.specs.declared.keys.Key.{Key}
use Rattle.math_table.specs.Places.{Located}
use Rattle.math_table.specs.Coverages.{coverage_index}
use Rattle.math_table.specs.Reading.{word, fault_at, bind, on_found, via}

-- MathVariants has at 0 the least overlap, and for each axis a coverage offset
abbrev pub coverage_offset : Axis → ℕ
coverage_offset Upright = 2
coverage_offset Level = 4

-- .. and a count of construction offsets, which follow at 10
abbrev pub count_offset : Axis → ℕ
count_offset Upright = 6
count_offset Level = 8

module _ (table : List ℕ) (key : Key) (base : ℕ) where
  -- the index of the key's glyph in the coverage of its axis
  abbrev pub covered : Result (Option ℕ) Fault
  covered =
      bind (word table key (base + coverage_offset key.axis)) (λ offset.
      via offset (coverage_index table key (base + offset)))

  -- how many construction offsets stand before those of the axis: the upright ones come first
  abbrev pub skipped : Axis → Result ℕ Fault
  skipped Upright = Ok 0
  skipped Level = word table key (base + 6)

  -- the construction offset at an index of the axis
  abbrev pub construction_offset : ℕ → Result ℕ Fault
  construction_offset index =
      bind (word table key (base + count_offset key.axis)) (λ count.
      if nat_lt index count
      then bind (skipped key.axis) (λ before. word table key (base + 10 + 2 * (before + index)))
      else Err (fault_at CoverageIndex key (base + count_offset key.axis)))

  -- the least overlap, and where the key's construction begins
  abbrev pub located_from : Result (Option Located) Fault
  located_from =
      bind (word table key base) (λ least.
      bind covered (λ o. on_found o (λ index.
      bind (construction_offset index) (λ offset.
      via offset (Ok (Some (record { least = least; place = base + offset })))))))

-- the header has at 8 the offset of MathVariants; an empty table knows no key
abbrev pub located : List ℕ → Key → Result (Option Located) Fault
located table key =
    if length table == 0 then Ok None
    else bind (word table key 8) (λ base. via base (located_from table key base))
