use Rattle.math_table.proofs.OfferedIsKnown.{what_has_nothing_is_unknown}
use Rattle.math_table.proofs.laws.what_has_nothing_is_unknown.Goals as goal

pub returns : goal.returns
returns c = what_has_nothing_is_unknown
