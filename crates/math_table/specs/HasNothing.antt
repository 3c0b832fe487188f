-- Why a table has nothing for a key, where it has no fault.
use Rattle.std.specs.Prelude.{◌≡◌, ℕ, ◌+◌, ◌*◌, ◌<◌, ◌≤◌, List, length}
use Rattle.face.specs.declared.keys.Key.{Key}
use Rattle.math_table.specs.declared.coverages.Format.{Format}
use Rattle.math_table.specs.Coverages.{entry_size}
use Rattle.math_table.specs.MathVariants.{coverage_offset}
use Rattle.math_table.specs.Offers.{WordIs, Leads, Gives, format_word, Indexed, OffsetIs}

-- the coverage table at `place` ends inside the table, and none of its entries holds the glyph
pub record LeavesOut (table : List ℕ) (glyph place : ℕ) : Type 0 where
  pub format : Format
  pub format_is : WordIs table place (format_word format)
  pub count : ℕ
  pub count_is : WordIs table (place + 2) count
  pub inside : place + 4 + entry_size format * count ≤ length table
  pub none : (i : ℕ) → i < count → (index : ℕ) → Gives table glyph (place + 4 + entry_size format * i) i format index → ⊥

-- why MathVariants at `base` has no construction for the key; each reason has the coverage offset inside the table, and so the least overlap before it
pub data ConstructsNothing (table : List ℕ) (key : Key) (base : ℕ) : Type 0 where
  -- the offset of the coverage table of the key's axis is null
  no_coverage : WordIs table (base + coverage_offset key.axis) 0 → ConstructsNothing table key base
  -- that coverage table leaves the key's glyph out
  not_covered : (place : ℕ) → Leads table base (base + coverage_offset key.axis) place → LeavesOut table key.glyph place → ConstructsNothing table key base
  -- the glyph has an index, and the construction offset of that is null
  null_construction : (index : ℕ) → Indexed table key base index → OffsetIs table key base index 0 → ConstructsNothing table key base

-- why the whole table has none
pub data HasNothing (table : List ℕ) (key : Key) : Type 0 where
  -- the table is empty
  empty : length table ≡ 0 → HasNothing table key
  -- the offset of MathVariants is null
  no_variants : WordIs table 8 0 → HasNothing table key
  -- MathVariants is there, and has no construction for the key
  not_in_variants : (base : ℕ) → Leads table 0 8 base → ConstructsNothing table key base → HasNothing table key
