use Rattle.std.proofs.Common.{◌≡◌, ◌+◌, ◌≤◌, ◌++◌, length}
use Rattle.choice.specs.Assemblies.{mosts}
use Rattle.choice.specs.Spreading.{slacks}
use Rattle.choice.specs.Tallying.{mosts_after}
use Rattle.choice.proofs.slacks.note_slacks.Given as goal

-- the slacks so far are noted, those of the pieces ahead follow
abbrev pub invariant-loop-part : goal.invariant-loop-part
invariant-loop-part g l =
    let ahead = mosts_after l.former l.part-iterator in
    record {
      can_next : (goal.iterator-loop-part g).can_next l.part-iterator;
      finite : (goal.iterator-loop-part g).is_finite l.part-iterator;
      few : length l.slacks.items + length ahead ≤ 4095;
      so_far : l.slacks.items ++ slacks l.least ahead ≡ slacks l.least (mosts l.initial.part-iterator);
    }
