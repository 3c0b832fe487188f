use Rattle.math_table.proofs.OfferedIsKnown.{what_the_table_offers_is_known}
use Rattle.math_table.proofs.laws.what_the_table_offers_is_known.Goals as goal

pub returns : goal.returns
returns c = what_the_table_offers_is_known
