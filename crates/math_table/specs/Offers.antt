-- What a MATH table offers for a key: a relation between words of the table, in no order of reading.
use Rattle.std.specs.Prelude.{◌≡◌, ℕ, ◌+◌, ◌-◌, ◌*◌, ◌<◌, ◌≤◌, List, [], length, Some, ◌==◌, bit_and}
use Rattle.std.specs.List.{slice_get}
use Rattle.face.specs.declared.keys.Axis.{Axis}
use Rattle.face.specs.declared.keys.Axis.TheVariants.{Upright, Level}
use Rattle.face.specs.declared.keys.Key.{Key}
use Rattle.face.specs.declared.parts.Part.{Part}
use Rattle.face.specs.declared.variants.Variant.{Variant}
use Rattle.face.specs.Bounds.{LARGEST}
use Rattle.face.specs.Clamping.{Clamped}
use Rattle.face.specs.Meaning.{Construction}
use Rattle.math_table.specs.declared.coverages.Format.{Format}
use Rattle.math_table.specs.declared.coverages.Format.TheVariants.{Glyphs, Ranges}
use Rattle.math_table.specs.Coverages.{entry_size}
use Rattle.math_table.specs.MathVariants.{coverage_offset, count_offset}
use Rattle.math_table.specs.Reading.{word_at}

-- the word at an offset of the table is w
abbrev pub WordIs : List ℕ → (place w : ℕ) → Type 0
WordIs table place w = word_at table place ≡ Some w

-- the word at `place` is no null offset, and leads from `base` to `target`
pub record Leads (table : List ℕ) (base place target : ℕ) : Type 0 where
  pub offset : ℕ
  pub word_is : WordIs table place offset
  pub not_null : offset ≡ 0 → ⊥
  pub target_is : target ≡ base + offset

-- an entry of a coverage table, at `place` and the position-th from 0, holds the glyph and gives it an index:
-- in format 1 it is the glyph, and in format 2 a range from a glyph to a last one, with the index of its first
pub data Gives (table : List ℕ) (glyph place position : ℕ) : Format → ℕ → Type 0 where
  alone : WordIs table place glyph → Gives table glyph place position Glyphs position
  ranged : (start last first : ℕ)
      → WordIs table place start → WordIs table (place + 2) last → WordIs table (place + 4) first
      → start ≤ glyph → glyph ≤ last → Gives table glyph place position Ranges (first + (glyph - start))

-- the word that a coverage table of a format begins with
abbrev pub format_word : Format → ℕ
format_word Glyphs = 1
format_word Ranges = 2

-- the coverage table at `place` gives the glyph an index: by the first entry that holds it
pub record Covers (table : List ℕ) (glyph place index : ℕ) : Type 0 where
  pub format : Format
  pub format_is : WordIs table place (format_word format)
  pub count : ℕ
  pub count_is : WordIs table (place + 2) count
  pub position : ℕ
  pub inside : position < count
  pub gives : Gives table glyph (place + 4 + entry_size format * position) position format index
  pub first : (i : ℕ) → i < position → (other : ℕ) → Gives table glyph (place + 4 + entry_size format * i) i format other → ⊥

-- the coverage table of the key's axis, which MathVariants at `base` has, gives its glyph an index
pub record Indexed (table : List ℕ) (key : Key) (base index : ℕ) : Type 0 where
  pub coverage : ℕ
  pub leads : Leads table base (base + coverage_offset key.axis) coverage
  pub covers : Covers table key.glyph coverage index

-- how many construction offsets stand before those of the axis: the upright ones come first
abbrev pub Before : List ℕ → (base : ℕ) → Axis → ℕ → Type 0
Before table base Upright before = before ≡ 0
Before table base Level before = WordIs table (base + 6) before

-- the construction offset of an index, which may be null: the index is below the count of its axis
pub record OffsetIs (table : List ℕ) (key : Key) (base index offset : ℕ) : Type 0 where
  pub count : ℕ
  pub count_is : WordIs table (base + count_offset key.axis) count
  pub inside : index < count
  pub before : ℕ
  pub before_is : Before table base key.axis before
  pub word_is : WordIs table (base + 10 + 2 * (before + index)) offset

-- the construction of an index begins at `place`
pub record Constructs (table : List ℕ) (key : Key) (base index place : ℕ) : Type 0 where
  pub offset : ℕ
  pub offset_is : OffsetIs table key base index offset
  pub not_null : offset ≡ 0 → ⊥
  pub place_is : place ≡ base + offset

-- as many entries as the word at `count` says, and the one at i stands i sizes after the first
pub record Listed {X : Type 0} (table : List ℕ) (Is : ℕ → X → Type 0) (size count first : ℕ) (xs : List X) : Type 0 where
  pub length_is : WordIs table count (length xs)
  pub entries_are : (i : ℕ) (x : X) → slice_get xs i ≡ Some x → Is (first + size * i) x

-- the variant whose words stand at `place`
pub record VariantIs (table : List ℕ) (face place : ℕ) (v : Variant) : Type 0 where
  pub face_is : v.face ≡ face
  pub glyph_is : WordIs table place v.glyph
  pub advance_is : WordIs table (place + 2) v.advance

-- the part whose words stand at `place`; its connectors count as no longer than it, and the lowest flag marks an extender
pub record PartIs (table : List ℕ) (face place : ℕ) (p : Part) : Type 0 where
  pub start : ℕ
  pub end : ℕ
  pub flags : ℕ
  pub glyph_is : WordIs table place p.glyph
  pub start_is : WordIs table (place + 2) start
  pub end_is : WordIs table (place + 4) end
  pub full_is : WordIs table (place + 6) p.full
  pub flags_is : WordIs table (place + 8) flags
  pub clamped : Clamped face p.glyph start end p.full (bit_and flags 1 == 1) p

-- the parts of the construction at `place`: those of its assembly, and none where the offset of that is null
pub data Assembles (table : List ℕ) (face place : ℕ) : List Part → Type 0 where
  no_assembly : WordIs table place 0 → Assembles table face place []
  assembly : {ps : List Part} (target : ℕ) → Leads table place place target
      → Listed table (PartIs table face) 10 (target + 4) (target + 6) ps → Assembles table face place ps

-- the construction c stands in the table: it is the one of the index that the key's glyph has in MathVariants
pub record Offers (table : List ℕ) (face : ℕ) (key : Key) (c : Construction) : Type 0 where
  pub base : ℕ
  pub header : Leads table 0 8 base
  pub index : ℕ
  pub indexed : Indexed table key base index
  pub place : ℕ
  pub constructs : Constructs table key base index place
  pub limit : c.limit ≡ LARGEST
  pub least : WordIs table base c.least
  pub variants : Listed table (VariantIs table face) 4 (place + 2) (place + 4) c.variants
  pub parts : Assembles table face place c.parts
