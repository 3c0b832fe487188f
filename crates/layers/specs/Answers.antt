-- What the layers' functions answer on the way.
-- Nothing here has to be believed, since every answer about a key is equated with its meaning.
use Rattle.std.specs.Prelude.{◌≡◌, ℕ, ◌*◌, min, Bool, if◌then◌else◌, List, [], Some, None, Ok, Err, Option, Result}
use Rattle.std.specs.Option.{option_map}
use Rattle.face.specs.declared.faults.Fault.{Fault}
use Rattle.face.specs.declared.keys.Key.{Key}
use Rattle.face.specs.declared.looks.Look.{Look}
use Rattle.face.specs.declared.parts.Part.{Part}
use Rattle.face.specs.declared.variants.Variant.{Variant}
use Rattle.face.specs.Bounds.{LARGEST}
use Rattle.face.specs.Clamping.{clamped_part}
use Rattle.face.specs.Meaning.{Meaning, unknown, faulty, construction, looked, variant_at, part_at}
use Rattle.layers.specs.Layers.{through}
use Rattle.layers.specs.Scaling.{lengths, first_too_long, too_long_at, judged}

-- a length times k, and the largest where that is longer
abbrev pub times : ℕ → ℕ → ℕ
times k length = min (k * length) LARGEST

-- what judging the lengths comes to, by the first place that is too long
abbrev pub verdict : Key → Option ℕ → Result (Unit {0}) Fault
verdict key None = Ok tt
verdict key (Some place) = Err (too_long_at key place)

-- what is found below for a key, where none of its lengths is too long when scaled
abbrev pub judged_below : ℕ → Key → Meaning → Result (Option Look) Fault
judged_below k key m = looked (through (λ c. judged key (first_too_long k 0 (lengths c)) c) m)

-- the look that a scale makes of one below
abbrev pub look_from : ℕ → Look → Look
look_from k l = record { limit = times k l.limit; least = times k l.least; variants = l.variants; parts = l.parts }

-- the variant that a scale makes of one below
abbrev pub variant_from : ℕ → Variant → Variant
variant_from k v = record { face = v.face; glyph = v.glyph; advance = times k v.advance }

-- the part that a scale makes of one below
abbrev pub part_from : ℕ → Part → Part
part_from k p = clamped_part p.face p.glyph (times k p.start) (times k p.end) (times k p.full) p.extender

-- the lengths of a key by their places: none without a construction
abbrev pub lengths_of : Meaning → List ℕ
lengths_of unknown = []
lengths_of (faulty f) = []
lengths_of (construction c) = lengths c

-- the entries of a scaled key: those below with their lengths multiplied if all fit, else none
pub record Entries (k : ℕ) (m above : Meaning) (all_fit : Bool) : Type 0 where
  pub variants : (i : ℕ) → variant_at above i ≡ (if all_fit then option_map (variant_from k) (variant_at m i) else None)
  pub parts : (i : ℕ) → part_at above i ≡ (if all_fit then option_map (part_from k) (part_at m i) else None)
