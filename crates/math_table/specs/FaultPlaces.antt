-- What stands in a table where it has a fault.
use Rattle.std.specs.Prelude.{◌≡◌, ℕ, ◌+◌, ◌≤◌, List, None, ◌≢◌}
use Rattle.face.specs.declared.faults.Cause.{Cause}
use Rattle.face.specs.declared.faults.Cause.TheVariants.{OutsideTable, CoverageFormat, CoverageIndex}
use Rattle.face.specs.declared.faults.Fault.{Fault}
use Rattle.face.specs.declared.faults.Layer.TheVariants.{Math}
use Rattle.face.specs.declared.keys.Key.{Key}
use Rattle.math_table.specs.MathVariants.{coverage_offset, count_offset}
use Rattle.math_table.specs.Offers.{WordIs, Leads, Indexed}
use Rattle.math_table.specs.Reading.{word_at}

-- a cause, and what is at its place; no other cause is a table's
pub data CauseStands (table : List ℕ) (key : Key) : (place : ℕ) → Cause → Type 0 where
  -- no word is: it would not end inside the table
  outside : {place : ℕ} → word_at table place ≡ None → CauseStands table key place OutsideTable
  -- the coverage table of the key's axis begins with a word that is no format
  no_format : {base place : ℕ} (w : ℕ)
      → Leads table 0 8 base → Leads table base (base + coverage_offset key.axis) place
      → WordIs table place w → (w ≢ 1) → (w ≢ 2) → CauseStands table key place CoverageFormat
  -- the count of the axis's constructions is not above the index of the key's glyph
  no_construction : {base : ℕ} (index count : ℕ)
      → Leads table 0 8 base → Indexed table key base index
      → WordIs table (base + count_offset key.axis) count → count ≤ index → CauseStands table key (base + count_offset key.axis) CoverageIndex

-- a fault for the key, of the table itself
pub record FaultStands (table : List ℕ) (key : Key) (f : Fault) : Type 0 where
  pub layer : f.layer ≡ Math
  pub passed : f.passed ≡ 0
  pub glyph : f.glyph ≡ key.glyph
  pub cause : CauseStands table key f.place f.cause
