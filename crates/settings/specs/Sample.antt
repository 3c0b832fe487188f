-- The sample table, and what it offers.
use Rattle.std.specs.Prelude.{ℕ, ◌/◌, ◌%◌, true, false, List, [], ◌∷◌, ◌++◌, slice_set}
use Rattle.face.specs.declared.keys.Axis.TheVariants.{Upright}
use Rattle.face.specs.declared.keys.Key.{Key}
use Rattle.face.specs.declared.variants.Variant.{Variant}
use Rattle.face.specs.Bounds.{LARGEST}
use Rattle.face.specs.Clamping.{clamped_part}
use Rattle.face.specs.Meaning.{Construction}

-- words as bytes, the more significant byte first
abbrev pub bytes : List ℕ → List ℕ
bytes [] = []
bytes (w ∷ ws) = w / 256 ∷ w % 256 ∷ bytes ws

-- at 0: version 1.0, no constants, no glyph info, MathVariants at 10
abbrev header : List ℕ
header = 0x0001 ∷ 0x0000 ∷ 0x0000 ∷ 0x0000 ∷ 0x000A ∷ []

-- at 10: least overlap 20, the upright coverage at 22, none level, one upright construction, none level, it is at 28
abbrev math_variants : List ℕ
math_variants = 0x0014 ∷ 0x000C ∷ 0x0000 ∷ 0x0001 ∷ 0x0000 ∷ 0x0012 ∷ []

-- at 22: format 1, one glyph, 40
abbrev coverage : List ℕ
coverage = 0x0001 ∷ 0x0001 ∷ 0x0028 ∷ []

-- at 28: the assembly at 40, two variants, 40 of advance 100 and 41 of advance 200
abbrev glyph_construction : List ℕ
glyph_construction = 0x000C ∷ 0x0002 ∷ 0x0028 ∷ 0x0064 ∷ 0x0029 ∷ 0x00C8 ∷ []

-- at 40: italics, three parts: glyph, start and end connector, full advance, flags
abbrev glyph_assembly : List ℕ
glyph_assembly =
    0x0000 ∷ 0x0000 ∷ 0x0003
    ∷ 0x0032 ∷ 0x0000 ∷ 0x0028 ∷ 0x0064 ∷ 0x0000
    ∷ 0x0033 ∷ 0x0028 ∷ 0x0028 ∷ 0x003C ∷ 0x0001
    ∷ 0x0034 ∷ 0x0028 ∷ 0x0000 ∷ 0x0064 ∷ 0x0000 ∷ []

-- the sample table, 76 bytes
abbrev pub sample : List ℕ
sample = bytes (header ++ (math_variants ++ (coverage ++ (glyph_construction ++ glyph_assembly))))

-- the table with another coverage format
abbrev pub with_format : ℕ → List ℕ
with_format format = slice_set (slice_set sample 22 (format / 256)) 23 (format % 256)

-- the key of a glyph that is to grow upward
abbrev pub upright : ℕ → Key
upright glyph = record { glyph = glyph; axis = Upright }

-- a variant of face 0
abbrev pub variant : ℕ → ℕ → Variant
variant glyph advance = record { face = 0; glyph = glyph; advance = advance }

-- what the sample offers for glyph 40 upright
abbrev pub offer : Construction
offer = record {
  limit = LARGEST;
  least = 20;
  variants = variant 40 100 ∷ variant 41 200 ∷ [];
  parts = clamped_part 0 50 0 40 100 false ∷ clamped_part 0 51 40 40 60 true ∷ clamped_part 0 52 40 0 100 false ∷ [];
}
