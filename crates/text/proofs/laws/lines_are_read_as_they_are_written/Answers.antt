use Rattle.text.proofs.Joining.{lines_are_read_as_they_are_written}
use Rattle.text.proofs.laws.lines_are_read_as_they_are_written.Goals as goal

pub returns : goal.returns
returns c = lines_are_read_as_they_are_written
