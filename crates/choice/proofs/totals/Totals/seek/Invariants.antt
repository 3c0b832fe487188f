use Rattle.std.proofs.Common.{◌≡◌, ◌-◌, ◌≤◌}
use Rattle.face.specs.Meaning.{Construction}
use Rattle.choice.specs.Choosing.{reaches, first, repeats}
use Rattle.choice.specs.Totals.{Describes}
use Rattle.choice.proofs.totals.Totals.seek.Given as goal

-- no count so far reaches the target
abbrev pub invariant-loop-sums : goal.invariant-loop-sums
invariant-loop-sums l =
    let target = l.wanted.target in
    let limit = l.wanted.limit in
    record {
      low : l.repeats ≤ 4097;
      so_far : (c : Construction) → Describes l.self c
          → first (reaches c.least limit target c.parts) l.repeats (4097 - l.repeats) ≡ repeats c.least limit target c.parts;
    }

abbrev pub decreases-loop-sums : goal.decreases-loop-sums
decreases-loop-sums l = 4097 - l.repeats
