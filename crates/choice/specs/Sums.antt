-- What pieces in a row add up to, so that a span takes a few sums. This serves private functions.
use Rattle.std.specs.Prelude.{ℕ, ◌+◌, ◌-◌, ◌*◌, ◌≤◌, min, max, Bool, true, if◌then◌else◌, ◌&&◌, ◌||◌, List, map, length, Some, None, Option, ◌==◌, nat_le, nat_lt}
use Rattle.face.specs.declared.parts.Part.{Part}
use Rattle.choice.specs.declared.sums.Sums.{Sums}
use Rattle.choice.specs.Assemblies.{MOST_PIECES, total, sum, most, mosts}
use Rattle.choice.specs.Spans.{roomy}

-- what pieces in a row add up to
abbrev pub sums_of : ℕ → List Part → Sums
sums_of least ps = record { pieces = length ps; full = total (λ p. p.full) ps; mosts = sum (mosts ps); roomy = roomy least (mosts ps) }

-- what one more copy of each extender adds: itself, and its joint with itself
abbrev pub gains_of : ℕ → List Part → Sums
gains_of least es = record {
  pieces = length es;
  full = total (λ e. e.full) es;
  mosts = total (λ e. most e e) es;
  roomy = roomy least (map (λ e. most e e) es);
}

-- the sums of no piece
abbrev pub no_pieces : Sums
no_pieces = record { pieces = 0; full = 0; mosts = 0; roomy = true }

-- sums of at most n pieces
pub record Small (n : ℕ) (s : Sums) : Type 0 where
  pub few : s.pieces ≤ n
  pub short : s.full ≤ n * 4294967295
  pub covered : s.mosts ≤ s.full

-- the sums with one more piece behind another, or behind none
abbrev pub added : ℕ → Sums → Option Part → Part → Sums
added least s None p = record { pieces = s.pieces + 1; full = s.full + p.full; mosts = s.mosts; roomy = s.roomy }
added least s (Some a) p = record {
  pieces = s.pieces + 1;
  full = s.full + p.full;
  mosts = s.mosts + most a p;
  roomy = s.roomy && nat_le least (most a p);
}

-- the sums with what further repeats add
abbrev pub grown : Sums → Sums → ℕ → Sums
grown s more times = record {
  pieces = s.pieces + times * more.pieces;
  full = s.full + times * more.full;
  mosts = s.mosts + times * more.mosts;
  roomy = s.roomy && (times == 0 || more.roomy);
}

-- the span of pieces in a row that add up to the sums
abbrev pub span_of_sums : ℕ → Sums → Option (ℕ × ℕ)
span_of_sums least s =
    if nat_lt 0 s.pieces && (nat_le s.pieces MOST_PIECES && s.roomy)
    then Some (s.full - s.mosts, s.full - least * (s.pieces - 1)) else None

-- too many pieces, or every size above the limit: further repeats only add to both
abbrev pub past : ℕ → Sums → Bool
past limit s = nat_lt MOST_PIECES s.pieces || nat_lt limit (s.full - s.mosts)

-- the smallest size of a span that fits
abbrev pub fitting_size : ℕ → ℕ → Option (ℕ × ℕ) → Option ℕ
fitting_size target limit None = None
fitting_size target limit (Some s) = if nat_le (max target s.0) (min limit s.1) then Some (max target s.0) else None
