-- What the parts of a construction add up to, so that the span at any repeat count takes a few sums. This serves private functions.
use Rattle.std.specs.Prelude.{◌≡◌, ℕ, ◌≤◌, min, false, length}
use Rattle.face.specs.Meaning.{Construction}
use Rattle.choice.specs.declared.sums.Sums.{Sums}
use Rattle.choice.specs.declared.totals.Totals.{Totals}
use Rattle.choice.specs.Assemblies.{MOST_PIECES, pieces, extenders}
use Rattle.choice.specs.Spans.{possible}
use Rattle.choice.specs.Sums.{sums_of, gains_of}

-- the totals are those of the construction's parts: at no repeat, at one, and what each further one adds
pub record Describes (t : Totals) (c : Construction) : Type 0 where
  pub least_is : t.least ≡ c.least
  pub none_is : t.none ≡ sums_of c.least (pieces 0 c.parts)
  pub once_is : t.once ≡ sums_of c.least c.parts
  pub more_is : t.more ≡ gains_of c.least (extenders c.parts)

-- the sums are those of the pieces at repeat count r, which exists
pub record SumsAt (t : Totals) (r : ℕ) (s : Sums) : Type 0 where
  pub low : r ≤ MOST_PIECES
  pub are : (c : Construction) → Describes t c → (min r 1 ≤ length (extenders c.parts)) × (s ≡ sums_of c.least (pieces r c.parts))

-- from repeat count r on no assembly is legal
pub record NoneFrom (t : Totals) (r : ℕ) : Type 0 where
  pub none : (c : Construction) → Describes t c → (k : ℕ) → r ≤ k → possible c.least c.parts k ≡ false
