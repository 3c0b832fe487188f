use Rattle.signs.proofs.Asking.{a_question_is_read_as_it_is_written}
use Rattle.signs.proofs.laws.a_question_is_read_as_it_is_written.Goals as goal

pub returns : goal.returns
returns c = a_question_is_read_as_it_is_written
