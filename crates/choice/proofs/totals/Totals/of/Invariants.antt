use Rattle.std.proofs.Common.{◌≡◌, ◌+◌, ◌≤◌, length}
use Rattle.choice.specs.Tallying.{SmallTally, completed}
use Rattle.choice.proofs.totals.Totals.of.Given as goal

-- the parts so far are added up, the others follow
abbrev pub invariant-loop-part : goal.invariant-loop-part
invariant-loop-part g l =
    record {
      can_next : (goal.iterator-loop-part g).can_next l.part-iterator;
      finite : (goal.iterator-loop-part g).is_finite l.part-iterator;
      few : length l.yielded + length l.part-iterator ≤ 65535;
      small : SmallTally (length l.yielded) l.tally;
      so_far : completed l.tally l.part-iterator ≡ completed l.initial.tally l.offer.parts;
    }
