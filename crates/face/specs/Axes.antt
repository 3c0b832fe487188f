-- The numbers and the names of the axes.
use Rattle.std.specs.Prelude.{◌≡◌, ℕ, ◌<◌, List, Result, MatchResult, codes}
use Rattle.face.specs.declared.keys.Axis.{Axis}
use Rattle.face.specs.declared.keys.Axis.TheVariants.{Upright, Level}
use Rattle.face.specs.declared.keys.NoAxis.{NoAxis}

-- the number of an axis, as its definition shows it
abbrev pub number_of : Axis → ℕ
number_of Upright = 0
number_of Level = 1

-- a number is that of an axis, or above all of them
abbrev pub Numbered : ℕ → Result Axis NoAxis → Type 0
Numbered n r = MatchResult r (λ axis. number_of axis ≡ n) (λ e. 1 < n)

-- how an axis is written in a text
abbrev pub axis_name : Axis → List ℕ
axis_name Upright = codes "upright"
axis_name Level = codes "level"
