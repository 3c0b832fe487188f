-- The question in a line.
use Rattle.std.specs.Prelude.{ℕ, if◌then◌else◌, List, Some, None, Ok, Err, Option, Result, ◌==◌, nat_le}
use Rattle.face.specs.declared.keys.Axis.{Axis}
use Rattle.face.specs.declared.keys.Axis.TheVariants.{Upright, Level}
use Rattle.face.specs.declared.keys.Key.{Key}
use Rattle.signs.specs.declared.questions.BadQuestion.{BadQuestion}
use Rattle.signs.specs.declared.questions.BadQuestion.TheVariants.{NotTwoFields, NoGlyph, NoAxis}
use Rattle.signs.specs.Fields.{two_fields}
use Rattle.text.specs.Numbers.{numeral}

-- a glyph is a number from 0 to 65535
abbrev pub glyph_of : Option ℕ → Result ℕ BadQuestion
glyph_of None = Err NoGlyph
glyph_of (Some n) = if nat_le n 65535 then Ok n else Err NoGlyph

-- an axis is 0 or 1
abbrev pub axis_of : Option ℕ → Result Axis BadQuestion
axis_of None = Err NoAxis
axis_of (Some n) = if n == 0 then Ok Upright else (if n == 1 then Ok Level else Err NoAxis)

-- a glyph and an axis, and else what is wrong first
abbrev pub keyed : Result ℕ BadQuestion → Result Axis BadQuestion → Result Key BadQuestion
keyed (Ok glyph) (Ok axis) = Ok (record { glyph = glyph; axis = axis })
keyed (Ok glyph) (Err bad) = Err bad
keyed (Err bad) axis = Err bad

-- the key in two fields
abbrev pub fielded : Option (List ℕ × List ℕ) → Result Key BadQuestion
fielded None = Err NotTwoFields
fielded (Some fields) = keyed (glyph_of (numeral fields.0)) (axis_of (numeral fields.1))

-- the key that a line asks about
abbrev pub asked : List ℕ → Result Key BadQuestion
asked line = fielded (two_fields line)
