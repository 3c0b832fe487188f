-- How an excess over the size with every joint at its most is spread over the joints.
use Rattle.std.specs.Prelude.{ℕ, zero, suc, ◌+◌, ◌-◌, ◌≤◌, min, max, Bool, if◌then◌else◌, List, [], ◌∷◌, map, nat_le}
use Rattle.face.specs.declared.parts.Part.{Part}
use Rattle.choice.specs.Assemblies.{total, pieces, mosts}
use Rattle.choice.specs.Spans.{smallest}

-- a joint's slack is its most minus the least overlap
abbrev pub slacks : ℕ → List ℕ → List ℕ
slacks least ms = map (λ m. m - least) ms

-- the largest slack, 0 where there is no joint
abbrev pub highest : List ℕ → ℕ
highest [] = 0
highest (s ∷ ss) = max s (highest ss)

-- what the joints take together, each stretched by the smaller of its slack and l
abbrev pub filled : ℕ → List ℕ → ℕ
filled l ss = total (λ s. min s l) ss

-- the largest number up to n that passes the test, and 0 where none does
abbrev pub last : (ℕ → Bool) → ℕ → ℕ
last test zero = 0
last test (suc n) = let below = last test n in if test (suc n) then suc n else below

-- the largest number, no larger than the largest slack, that the excess fills
abbrev pub level : List ℕ → ℕ → ℕ
level ss excess = last (λ l. nat_le (filled l ss) excess) (highest ss)

-- what makes a number the level
pub record Level (ss : List ℕ) (excess l : ℕ) : Type 0 where
  pub low : l ≤ highest ss
  pub filled_by : filled l ss ≤ excess
  pub top : (k : ℕ) → k ≤ highest ss → filled k ss ≤ excess → k ≤ l

-- a unit that is still lacking goes to a joint whose slack is above the level
abbrev pub unit : ℕ → ℕ → ℕ → ℕ
unit l lacking s = min lacking (min 1 (s - l))

-- each joint takes the smaller of its slack and the level, and the first that can take more a unit that is lacking
abbrev pub spread : ℕ → ℕ → List ℕ → List ℕ
spread l lacking [] = []
spread l lacking (s ∷ ss) = (min s l + unit l lacking s) ∷ spread l (lacking - unit l lacking s) ss

-- by how much each joint is stretched
abbrev pub stretches : List ℕ → ℕ → List ℕ
stretches ss excess = spread (level ss excess) (excess - filled (level ss excess) ss) ss

-- each joint's most minus its stretch
abbrev pub less : List ℕ → List ℕ → List ℕ
less [] ts = []
less (m ∷ ms) [] = []
less (m ∷ ms) (t ∷ ts) = (m - t) ∷ less ms ts

-- the overlaps of the assembly of size z at repeat count r
abbrev pub overlaps : ℕ → List Part → ℕ → ℕ → List ℕ
overlaps least parts r z =
    less (mosts (pieces r parts)) (stretches (slacks least (mosts (pieces r parts))) (z - smallest parts r))
