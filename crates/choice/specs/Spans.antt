-- The legal sizes at a repeat count.
use Rattle.std.specs.Prelude.{ℕ, min, Bool, true, if◌then◌else◌, ◌&&◌, List, [], ◌∷◌, map, length, Some, None, Ok, Err, Option, Result, nat_le, nat_lt}
use Rattle.face.specs.declared.faults.Fault.{Fault}
use Rattle.face.specs.declared.parts.Part.{Part}
use Rattle.face.specs.Meaning.{Meaning, unknown, faulty, construction}
use Rattle.choice.specs.Assemblies.{MOST_PIECES, pieces, extenders, mosts, size}

-- the size with every joint at its most
abbrev pub smallest : List Part → ℕ → ℕ
smallest parts r = size (pieces r parts) (mosts (pieces r parts))

-- the size with every joint at the least overlap
abbrev pub largest : ℕ → List Part → ℕ → ℕ
largest least parts r = size (pieces r parts) (map (λ m. least) (mosts (pieces r parts)))

-- every joint leaves room for the least overlap
abbrev pub roomy : ℕ → List ℕ → Bool
roomy least [] = true
roomy least (m ∷ ms) = nat_le least m && roomy least ms

-- some assembly at repeat count r is legal
abbrev pub possible : ℕ → List Part → ℕ → Bool
possible least parts r =
    nat_le (min r 1) (length (extenders parts)) && (nat_lt 0 (length (pieces r parts))
    && (nat_le (length (pieces r parts)) MOST_PIECES && roomy least (mosts (pieces r parts))))

-- the smallest and the largest legal size at repeat count r, or none
abbrev pub span : ℕ → List Part → ℕ → Option (ℕ × ℕ)
span least parts r = if possible least parts r then Some (smallest parts r, largest least parts r) else None

-- the span of a key: none without a construction
abbrev pub span_of : Meaning → ℕ → Result (Option (ℕ × ℕ)) Fault
span_of unknown r = Ok None
span_of (faulty f) r = Err f
span_of (construction c) r = Ok (span c.least c.parts r)
