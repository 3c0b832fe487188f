use Rattle.choice.proofs.Spreads.{few_joints}
use Rattle.choice.proofs.stacks.stacked.Goals as goal

pub spread-requires : goal.spread-requires
spread-requires g c =
    let offer = c.in_ok-offer.offer in
    few_joints offer.least offer.parts c.args.repeats c.args.size c.in_ok-excess.excess c.span.result
    (c.span.ensures offer c.of-2.ensures) c.in_ok-excess.ensures
