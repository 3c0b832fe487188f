-- The sums of one pass over the parts, as far as it has come. This serves private functions.
use Rattle.std.specs.Prelude.{ℕ, ◌+◌, ◌&&◌, List, map, length, Some, None, Option}
use Rattle.face.specs.declared.parts.Part.{Part}
use Rattle.choice.specs.declared.sums.Sums.{Sums}
use Rattle.choice.specs.declared.totals.tallying.Tally.{Tally}
use Rattle.choice.specs.Assemblies.{total, sum, pieces, extenders, most, mosts_from, mosts}
use Rattle.choice.specs.Spans.{roomy}
use Rattle.choice.specs.Sums.{Small, no_pieces}

-- the tally of no part
abbrev pub no_parts : ℕ → Tally
no_parts least = record { least = least; none = no_pieces; once = no_pieces; more = no_pieces; fixed = None; last = None }

-- a tally of at most n parts
pub record SmallTally (n : ℕ) (t : Tally) : Type 0 where
  pub none_small : Small n t.none
  pub once_small : Small n t.once
  pub more_small : Small n t.more

-- the mosts of the joints of pieces behind another, or behind none
abbrev pub mosts_after : Option Part → List Part → List ℕ
mosts_after None ps = mosts ps
mosts_after (Some a) ps = mosts_from a ps

-- the sums with more pieces behind
abbrev pub followed : ℕ → Sums → Option Part → List Part → Sums
followed least s former ps = record {
  pieces = s.pieces + length ps;
  full = s.full + total (λ p. p.full) ps;
  mosts = s.mosts + sum (mosts_after former ps);
  roomy = s.roomy && roomy least (mosts_after former ps);
}

-- the gains with those of more extenders
abbrev pub gained : ℕ → Sums → List Part → Sums
gained least s es = record {
  pieces = s.pieces + length es;
  full = s.full + total (λ e. e.full) es;
  mosts = s.mosts + total (λ e. most e e) es;
  roomy = s.roomy && roomy least (map (λ e. most e e) es);
}

-- what a tally comes to with more parts behind
pub record Completed : Type 0 where
  pub least : ℕ
  pub none : Sums
  pub once : Sums
  pub more : Sums

abbrev pub completed : Tally → List Part → Completed
completed t ps = record {
  least = t.least;
  none = followed t.least t.none t.fixed (pieces 0 ps);
  once = followed t.least t.once t.last ps;
  more = gained t.least t.more (extenders ps);
}
