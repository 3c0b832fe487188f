use Rattle.std.proofs.Common.{◌≡◌, ◌++◌, length}
use Rattle.choice.specs.Assemblies.{pieces}
use Rattle.choice.specs.Walking.{standing}
use Rattle.choice.proofs.walks.WalkIterator.next.Given as goal

-- the pieces ahead stay the same
abbrev pub invariant-loop-self : goal.invariant-loop-self
invariant-loop-self g l =
    let now = l.self-inside in
    let before = l.initial.self-inside in
    standing now.row ++ pieces now.repeats now.parts ≡ standing before.row ++ pieces before.repeats before.parts

abbrev pub decreases-loop-self : goal.decreases-loop-self
decreases-loop-self g l = length l.self-inside.parts
