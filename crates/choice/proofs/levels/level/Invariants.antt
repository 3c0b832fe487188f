use Rattle.std.proofs.Common.{◌-◌, ◌≤◌}
use Rattle.choice.specs.Spreading.{highest, level}
use Rattle.choice.proofs.levels.level.Given as goal

-- the level lies between
abbrev pub invariant-loop-low : goal.invariant-loop-low
invariant-loop-low l = (l.low ≤ level l.slacks l.excess) × (level l.slacks l.excess ≤ l.high) × (l.high ≤ highest l.slacks)

abbrev pub decreases-loop-low : goal.decreases-loop-low
decreases-loop-low l = l.high - l.low
