use Rattle.math_table.proofs.ReadOffTheTable.{unknown_keys_have_nothing}
use Rattle.math_table.proofs.laws.unknown_keys_have_nothing.Goals as goal

pub returns : goal.returns
returns c = unknown_keys_have_nothing
