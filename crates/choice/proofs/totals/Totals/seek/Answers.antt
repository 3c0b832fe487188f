use Rattle.std.proofs.Common.{sym}
use Rattle.choice.proofs.Stopping.{ends_past}
use Rattle.choice.proofs.totals.Totals.seek.Goals as goal

pub returns-then-is_past : goal.returns-then-is_past
returns-then-is_past c offer d =
    let wanted = c.args.wanted in
    ends_past c.args.self wanted.limit wanted.target c.loop-sums.repeats offer d (c.loop-sums.invariant.so_far offer d)
    c.in-Some.sums c.in-Some.ensures (sym c.if-is_past.ensures)
