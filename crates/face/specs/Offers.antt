-- The construction of a key as it is read.
use Rattle.std.specs.Prelude.{◌≡◌, ℕ, [], Some, None, Ok, Err, Option, Result}
use Rattle.face.specs.declared.faults.Fault.{Fault}
use Rattle.face.specs.declared.looks.Look.{Look}
use Rattle.face.specs.declared.parts.Part.{Part}
use Rattle.face.specs.declared.variants.Variant.{Variant}
use Rattle.face.specs.Meaning.{Meaning, unknown, faulty, construction, Construction, looked, variant_at, part_at}

-- the construction that a key has; an empty one where it has none, of which nothing is ever offered
abbrev pub constructed : Meaning → Construction
constructed unknown = record { limit = 0; least = 0; variants = []; parts = [] }
constructed (faulty f) = record { limit = 0; least = 0; variants = []; parts = [] }
constructed (construction c) = c

-- what is offered for a key: its construction, if it is known
abbrev pub offered : Meaning → Result (Option Construction) Fault
offered unknown = Ok None
offered (faulty f) = Err f
offered (construction c) = Ok (Some c)

-- a key has a construction, of which this look and these entries are read
pub record Reads (m : Meaning) (look : Look) (variant : ℕ → Option Variant) (part : ℕ → Option Part) : Type 0 where
  pub looks : looked m ≡ Ok (Some look)
  pub variants : (i : ℕ) → variant_at m i ≡ variant i
  pub parts : (i : ℕ) → part_at m i ≡ part i
