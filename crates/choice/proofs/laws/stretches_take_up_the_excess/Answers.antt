use Rattle.choice.proofs.Filling.{stretches_take_up_the_excess}
use Rattle.choice.proofs.laws.stretches_take_up_the_excess.Goals as goal

pub returns : goal.returns
returns c = stretches_take_up_the_excess
