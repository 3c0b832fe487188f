use Rattle.signs.proofs.Piling.{a_pile_is_read_as_it_is_written}
use Rattle.signs.proofs.laws.a_pile_is_read_as_it_is_written.Goals as goal

pub returns : goal.returns
returns c = a_pile_is_read_as_it_is_written
