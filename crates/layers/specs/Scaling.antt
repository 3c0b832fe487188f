-- What scaling by k means.
use Rattle.std.specs.Prelude.{ℕ, ◌*◌, min, not, List, ◌∷◌, ◌++◌, map, Some, None, Option, nat_le}
use Rattle.std.specs.List.{position_from}
use Rattle.std.proofs.Common.{mul-le-mul_left}
use Rattle.face.specs.declared.faults.Cause.TheVariants.{ScaledLength}
use Rattle.face.specs.declared.faults.Fault.{Fault}
use Rattle.face.specs.declared.faults.Layer.TheVariants.{Scale}
use Rattle.face.specs.declared.keys.Key.{Key}
use Rattle.face.specs.declared.parts.Part.{Part}
use Rattle.face.specs.declared.variants.Variant.{Variant}
use Rattle.face.specs.Bounds.{LARGEST}
use Rattle.face.specs.Faults.{found}
use Rattle.face.specs.Meaning.{Meaning, faulty, construction, Construction}
use Rattle.layers.specs.Layers.{through}

-- the advance is multiplied
abbrev pub scaled_variant : ℕ → Variant → Variant
scaled_variant k v = record { face = v.face; glyph = v.glyph; advance = k * v.advance }

-- both connectors and the full advance are multiplied
abbrev pub scaled_part : ℕ → Part → Part
scaled_part k p = record {
  face = p.face;
  glyph = p.glyph;
  start = k * p.start;
  end = k * p.end;
  full = k * p.full;
  extender = p.extender;
  starts = mul-le-mul_left k p.starts;
  ends = mul-le-mul_left k p.ends;
}

-- every length is multiplied, and the limit too, as far as the largest
abbrev pub scaled_construction : ℕ → Construction → Construction
scaled_construction k c = record {
  limit = min (k * c.limit) LARGEST;
  least = k * c.least;
  variants = map (scaled_variant k) c.variants;
  parts = map (scaled_part k) c.parts;
}

-- the lengths that are judged, by their places: the least overlap at 0, from 1 on the variants, then the parts
abbrev pub lengths : Construction → List ℕ
lengths c = c.least ∷ (map (λ v. v.advance) c.variants ++ map (λ p. p.full) c.parts)

-- the place of the first length that is too long when multiplied, where the list begins at `place`
abbrev pub first_too_long : ℕ → ℕ → List ℕ → Option ℕ
first_too_long k place xs = position_from (λ x. not (nat_le (k * x) LARGEST)) place xs

-- the fault that a scale finds
abbrev pub too_long_at : Key → ℕ → Fault
too_long_at = found Scale ScaledLength

-- a key has a construction if no length is too long, and else a fault
abbrev pub judged : Key → Option ℕ → Construction → Meaning
judged key None c = construction c
judged key (Some place) c = faulty (too_long_at key place)

-- a face's meaning of a key, multiplied by k
abbrev pub scaled : ℕ → Key → Meaning → Meaning
scaled k key = through (λ c. judged key (first_too_long k 0 (lengths c)) (scaled_construction k c))
