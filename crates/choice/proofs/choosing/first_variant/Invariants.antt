use Rattle.std.proofs.Common.{◌≡◌, ◌+◌, length}
use Rattle.std.specs.Iterator.Adapters.{zip_first, zip_second}
use Rattle.choice.specs.Choosing.{first_variant}
use Rattle.choice.proofs.choosing.first_variant.Given as goal

-- none of the variants so far fits
abbrev pub invariant-loop-variant : goal.invariant-loop-variant
invariant-loop-variant g l =
    let left = zip_first l.variant-iterator in
    let indexes = zip_second l.variant-iterator in
    record {
      can_next : (goal.iterator-loop-variant g).can_next l.variant-iterator;
      finite : (goal.iterator-loop-variant g).is_finite l.variant-iterator;
      as_many : indexes.start + length left ≡ indexes.end;
      so_far : first_variant l.wanted.target l.wanted.limit indexes.start left ≡ first_variant l.wanted.target l.wanted.limit 0 l.offer.variants;
    }
