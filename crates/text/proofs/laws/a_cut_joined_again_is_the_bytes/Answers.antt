use Rattle.text.proofs.Joining.{a_cut_joined_again_is_the_bytes}
use Rattle.text.proofs.laws.a_cut_joined_again_is_the_bytes.Goals as goal

pub returns : goal.returns
returns c = a_cut_joined_again_is_the_bytes
