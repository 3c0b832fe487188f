use Rattle.layers.proofs.Judging.{each_length_has_a_place}
use Rattle.layers.proofs.laws.each_length_has_a_place.Goals as goal

pub returns : goal.returns
returns c = each_length_has_a_place
