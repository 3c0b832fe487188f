use Rattle.text.proofs.Joining.{lines_joined_again_are_the_text}
use Rattle.text.proofs.laws.lines_joined_again_are_the_text.Goals as goal

pub returns : goal.returns
returns c = lines_joined_again_are_the_text
