-- A question that is written is read again.
use Rattle.std.proofs.Common.{◌≡◌, ℕ, ◌≤◌, Ok, decimal as written, ap, ◌∙◌, arith}
use Rattle.std.proofs.lemmas.Grind.{common_steps}
use Rattle.face.specs.declared.keys.Axis.{Axis}
use Rattle.face.specs.declared.keys.Axis.TheVariants.{Upright, Level}
use Rattle.face.specs.Axes.{number_of}
use Rattle.text.proofs.Written.{a_number_is_read_as_it_is_written}
use Rattle.text.specs.Numbers.{numeral}
use Rattle.signs.proofs.Fielding.{numbers_are_two_fields}
use Rattle.signs.specs.Laws.{AQuestionIsReadAsItIsWritten}
use Rattle.signs.specs.Questions.{glyph_of, axis_of, keyed, fielded}

small : (axis : Axis) → number_of axis ≤ 1
small Upright = omega arith
small Level = omega arith

axis_read : (axis : Axis) → axis_of (numeral (written (number_of axis))) ≡ Ok axis
axis_read Upright = rw (a_number_is_read_as_it_is_written 0 (omega arith))
axis_read Level = rw (a_number_is_read_as_it_is_written 1 (omega arith))

glyph_read : (glyph : ℕ) → glyph ≤ 65535 → glyph_of (numeral (written glyph)) ≡ Ok glyph
glyph_read glyph most = rw (a_number_is_read_as_it_is_written glyph (omega arith)) (grind (arith, common_steps))

pub a_question_is_read_as_it_is_written : AQuestionIsReadAsItIsWritten
a_question_is_read_as_it_is_written key most =
    let s = small key.axis in
    ap fielded (numbers_are_two_fields key.glyph (number_of key.axis) (omega arith) (omega arith))
    ∙ (λ i. keyed (glyph_read key.glyph most i) (axis_read key.axis i))
