use Rattle.text.proofs.Written.{a_number_is_read_as_it_is_written}
use Rattle.text.proofs.laws.a_number_is_read_as_it_is_written.Goals as goal

pub returns : goal.returns
returns c = a_number_is_read_as_it_is_written
