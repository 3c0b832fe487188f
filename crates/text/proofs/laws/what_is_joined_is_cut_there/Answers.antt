use Rattle.text.proofs.Joining.{what_is_joined_is_cut_there}
use Rattle.text.proofs.laws.what_is_joined_is_cut_there.Goals as goal

pub returns : goal.returns
returns c = what_is_joined_is_cut_there
