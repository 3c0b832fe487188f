use Rattle.std.proofs.Common.{◌≡◌, ◌+◌, drop}
use Rattle.choice.specs.Spreading.{filled}
use Rattle.choice.proofs.levels.left_over.Given as goal

-- what is left, and what the joints that are left take, make up the excess with what all take
abbrev pub invariant-loop-slack : goal.invariant-loop-slack
invariant-loop-slack l = filled l.most (drop l.slack-index l.slacks) + l.excess ≡ l.left + filled l.most l.slacks
