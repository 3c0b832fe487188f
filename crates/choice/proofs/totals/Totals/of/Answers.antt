use Rattle.std.proofs.Common.{◌≡◌, ◌+◌, [], ◌∷◌, ◌++◌, length, ap, arith}
use Rattle.std.proofs.lemmas.List.{length_push}
use Rattle.choice.proofs.totals.Totals.of.Goals as goal

pub loop-part-preserved : goal.loop-part-preserved
loop-part-preserved g c =
    let so_far = c.loop-part.invariant in
    let longer : length (c.loop-part.yielded ++ c.in-Some.part ∷ []) ≡ length c.loop-part.yielded + 1 = length_push c.loop-part.yielded c.in-Some.part in
    record {
      can_next = so_far.can_next;
      finite = so_far.finite;
      few = omega (arith, longer, ap length c.in-Some.ensures.steps, so_far.few);
      small = rw longer (c.and-tally.ensures.small _ so_far.small);
      so_far = cc (c.and-tally.ensures.more c.next.new.self, c.in-Some.ensures.steps, so_far.so_far);
    }
