-- The choice of a sign for a target.
use Rattle.std.specs.Prelude.{ℕ, zero, suc, ◌+◌, ◌≤◌, min, max, Bool, false, if◌then◌else◌, ◌&&◌, List, [], ◌∷◌, length, Some, None, Err, Option, Result, nat_le}
use Rattle.std.specs.Option.{option_map, ok_or, option_or}
use Rattle.face.specs.declared.parts.Part.{Part}
use Rattle.face.specs.declared.variants.Variant.{Variant}
use Rattle.face.specs.Meaning.{Meaning, unknown, faulty, construction, Construction}
use Rattle.choice.specs.declared.signs.Missing.TheVariants.{Unknown, NothingFits}
use Rattle.choice.specs.declared.signs.NoSign.{NoSign}
use Rattle.choice.specs.declared.signs.NoSign.TheVariants.{Missing, Faulty}
use Rattle.choice.specs.declared.signs.Sign.{Sign}
use Rattle.choice.specs.declared.signs.Sign.TheVariants.{Variant as ReadyMade, Assembly}
use Rattle.choice.specs.Assemblies.{MOST_PIECES, pieces}
use Rattle.choice.specs.Spans.{smallest, span}

-- a size fits a target: it is at least the target and at most the limit
abbrev pub Fits : ℕ → ℕ → ℕ → Type 0
Fits target limit z = (target ≤ z) × (z ≤ limit)

-- the same as a test
abbrev pub fits : ℕ → ℕ → ℕ → Bool
fits target limit z = nat_le target z && nat_le z limit

-- the first variant that fits, with its index, which is counted on from i
abbrev pub first_variant : ℕ → ℕ → ℕ → List Variant → Option Sign
first_variant target limit i [] = None
first_variant target limit i (v ∷ vs) =
    if fits target limit v.advance then Some (ReadyMade i v) else first_variant target limit (i + 1) vs

-- some size of a span fits
abbrev pub meets : ℕ → ℕ → Option (ℕ × ℕ) → Bool
meets target limit None = false
meets target limit (Some s) = nat_le (max target s.0) (min limit s.1)

-- some legal assembly at repeat count r fits
abbrev pub reaches : ℕ → ℕ → ℕ → List Part → ℕ → Bool
reaches least limit target parts r = meets target limit (span least parts r)

-- the first number that passes the test, of n numbers from r on
unfoldable pub first : (ℕ → Bool) → ℕ → ℕ → Option ℕ
first test r zero = None
first test r (suc n) = let later = first test (suc r) n in if test r then Some r else later

-- the smallest repeat count at which some legal assembly fits: more repeats than an assembly has pieces are never legal
abbrev pub repeats : ℕ → ℕ → ℕ → List Part → Option ℕ
repeats least limit target parts = first (reaches least limit target parts) 0 (MOST_PIECES + 1)

-- the smallest size at repeat count r that is at least the target
abbrev pub chosen_size : ℕ → List Part → ℕ → ℕ
chosen_size target parts r = max target (smallest parts r)

-- the assembly that is taken at repeat count r
abbrev pub assembly : ℕ → List Part → ℕ → Sign
assembly target parts r = Assembly r (chosen_size target parts r) (length (pieces r parts))

-- the first variant that fits; otherwise the assembly at the smallest repeat count at which one fits
abbrev pub chosen : Construction → ℕ → Option Sign
chosen c target =
    option_or (first_variant target c.limit 0 c.variants)
    (option_map (assembly target c.parts) (repeats c.least c.limit target c.parts))

-- the choice for a key: the sign, or why there is none
abbrev pub choice : Meaning → ℕ → Result Sign NoSign
choice unknown target = Err (Missing Unknown)
choice (faulty f) target = Err (Faulty f)
choice (construction c) target = ok_or (chosen c target) (Missing NothingFits)
