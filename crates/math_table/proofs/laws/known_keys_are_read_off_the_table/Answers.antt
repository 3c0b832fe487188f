use Rattle.math_table.proofs.ReadOffTheTable.{known_keys_are_read_off_the_table}
use Rattle.math_table.proofs.laws.known_keys_are_read_off_the_table.Goals as goal

pub returns : goal.returns
returns c = known_keys_are_read_off_the_table
