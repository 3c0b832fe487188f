-- What a face means, and what its three questions answer by it.
use Rattle.std.specs.Prelude.{ℕ, List, [], length, Some, None, Ok, Err, Option, Result}
use Rattle.std.specs.List.{slice_get}
use Rattle.face.specs.declared.faults.Fault.{Fault}
use Rattle.face.specs.declared.looks.Look.{Look}
use Rattle.face.specs.declared.parts.Part.{Part}
use Rattle.face.specs.declared.variants.Variant.{Variant}

-- what a font offers for a key: ready-made sizes, and parts to stack
pub record Construction : Type 0 where
  pub limit : ℕ
  pub least : ℕ
  pub variants : List Variant
  pub parts : List Part

-- each key has exactly one of these
pub data Meaning : Type 0 where
  unknown : Meaning
  faulty : Fault → Meaning
  construction : Construction → Meaning

-- a construction without its entries
abbrev pub summary : Construction → Look
summary c = record {
  limit = c.limit;
  least = c.least;
  variants = length c.variants;
  parts = length c.parts;
}

-- look tells which of the three it is
abbrev pub looked : Meaning → Result (Option Look) Fault
looked unknown = Ok None
looked (faulty f) = Err f
looked (construction c) = Ok (Some (summary c))

-- the variants of a key: none without a construction
abbrev pub variants_of : Meaning → List Variant
variants_of unknown = []
variants_of (faulty f) = []
variants_of (construction c) = c.variants

-- the parts of a key: none without a construction
abbrev pub parts_of : Meaning → List Part
parts_of unknown = []
parts_of (faulty f) = []
parts_of (construction c) = c.parts

-- the entry at an index from 0, and none beyond the list
abbrev pub variant_at : Meaning → ℕ → Option Variant
variant_at m i = slice_get (variants_of m) i

abbrev pub part_at : Meaning → ℕ → Option Part
part_at m i = slice_get (parts_of m) i
