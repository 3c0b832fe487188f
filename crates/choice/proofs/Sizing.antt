-- The legal sizes at one repeat count: from the smallest to the largest, and each number between.
use Rattle.std.proofs.Common.{◌≡◌, ℕ, zero, suc, ◌+◌, ◌-◌, ◌<◌, ◌≤◌, min, true, ltb, leb, List, [], ◌∷◌, map, length, Some, None, refl, arith}
use Rattle.std.proofs.lemmas.Bool.{leb-true, le-leb, ltb-true, lt-ltb, and_parts, and_from, both_ways, cond_both}
use Rattle.std.specs.List.{AllZip}
use Rattle.face.specs.declared.parts.Part.{Part}
use Rattle.choice.specs.Assemblies.{MOST_PIECES, total, sum, pieces, extenders, mosts_from, mosts, Within, Legal, size}
use Rattle.choice.specs.Laws.{ASpanTellsTheLegalSizes}
use Rattle.choice.specs.SpanTells.{SpanTells}
use Rattle.choice.specs.Spans.{smallest, largest, roomy, possible}
use Rattle.choice.specs.Spreading.{slacks, stretches, less, overlaps}
use Rattle.choice.proofs.Filling.{stretches_take_up_the_excess}

-- full advances cover the joints, each joint within the piece behind it
mosts_from_low : (a : Part) (ps : List Part) → sum (mosts_from a ps) ≤ total (λ p. p.full) ps
mosts_from_low a [] = omega arith
mosts_from_low a (p ∷ ps) = omega (arith, mosts_from_low p ps)

pub mosts_low : (ps : List Part) → sum (mosts ps) ≤ total (λ p. p.full) ps
mosts_low [] = omega arith
mosts_low (a ∷ ps) = omega (arith, mosts_from_low a ps)

within_sums : (least : ℕ) (os ms : List ℕ) → Within least os ms → (sum (map (λ m. least) ms) ≤ sum os) × (sum os ≤ sum ms)
within_sums least [] [] w = (omega arith, omega arith)
within_sums least [] (m ∷ ms) w = absurd w
within_sums least (o ∷ os) [] w = absurd w
within_sums least (o ∷ os) (m ∷ ms) w = let ih = within_sums least os ms w.1 in (omega arith, omega arith)

within_roomy : (least : ℕ) (os ms : List ℕ) → Within least os ms → roomy least ms ≡ true
within_roomy least [] [] w = refl
within_roomy least [] (m ∷ ms) w = absurd w
within_roomy least (o ∷ os) [] w = absurd w
within_roomy least (o ∷ os) (m ∷ ms) w =
    and_from _ _ (le-leb least m (omega arith)) (within_roomy least os ms w.1)

pub slacks_sum : (least : ℕ) (ms : List ℕ) → roomy least ms ≡ true → sum (slacks least ms) + sum (map (λ m. least) ms) ≡ sum ms
slacks_sum least [] h = refl
slacks_sum least (m ∷ ms) h =
    let p = and_parts (leb least m) (roomy least ms) h in
    omega (arith, leb-true least m p.0, slacks_sum least ms p.1)

-- stretched by no more than its slack, each joint keeps the least overlap
less_within : (least : ℕ) (ms ts : List ℕ) → roomy least ms ≡ true → AllZip (λ t s. t ≤ s) ts (slacks least ms)
    → Within least (less ms ts) ms × (sum (less ms ts) + sum ts ≡ sum ms)
less_within least [] [] h e = (tt, refl)
less_within least [] (t ∷ ts) h e = absurd e
less_within least (m ∷ ms) [] h e = absurd e
less_within least (m ∷ ms) (t ∷ ts) h e =
    let p = and_parts (leb least m) (roomy least ms) h in
    let low : least ≤ m = leb-true least m p.0 in
    let ih = less_within least ms ts p.1 e.1 in
    (((omega arith, omega arith), ih.0), omega arith)

exists_passes : (r n : ℕ) → (n ≡ 0 → r ≡ 0) → leb (min r 1) n ≡ true
exists_passes r zero h = le-leb _ _ (omega (arith, h refl))
exists_passes r (suc n) h = le-leb _ _ (omega arith)

-- what makes an assembly possible
pub record Possible (least : ℕ) (parts : List Part) (r : ℕ) : Type 0 where
  pub exists : min r 1 ≤ length (extenders parts)
  pub some : 0 < length (pieces r parts)
  pub few : length (pieces r parts) ≤ MOST_PIECES
  pub room : roomy least (mosts (pieces r parts)) ≡ true

module _ (least : ℕ) (parts : List Part) (r : ℕ) where
  pub possible_parts : possible least parts r ≡ true → Possible least parts r
  possible_parts can =
      let a = and_parts (leb (min r 1) (length (extenders parts))) _ can in
      let b = and_parts (ltb 0 (length (pieces r parts))) _ a.1 in
      let c = and_parts (leb (length (pieces r parts)) MOST_PIECES) _ b.1 in
      record { exists = leb-true _ _ a.0; some = ltb-true _ _ b.0; few = leb-true _ _ c.0; room = c.1 }

  possible_from : (os : List ℕ) → Legal least parts r os → possible least parts r ≡ true
  possible_from os a =
      and_from _ _ (exists_passes r (length (extenders parts)) a.exists)
      (and_from _ _ (lt-ltb _ _ a.some) (and_from _ _ (le-leb _ _ a.few) (within_roomy least os _ a.within)))

  -- every legal size lies from the smallest to the largest
  pub sizes_lie_between : (os : List ℕ) → Legal least parts r os
      → (possible least parts r ≡ true) × (smallest parts r ≤ size (pieces r parts) os) × (size (pieces r parts) os ≤ largest least parts r)
  sizes_lie_between os a =
      let w = within_sums least os (mosts (pieces r parts)) a.within in
      (possible_from os a, omega arith, omega arith)

  -- and every number between is the size of the assembly that the spreading gives
  pub sizes_are_reached : (z : ℕ) → possible least parts r ≡ true → smallest parts r ≤ z → z ≤ largest least parts r
      → Legal least parts r (overlaps least parts r z) × (size (pieces r parts) (overlaps least parts r z) ≡ z)
  sizes_are_reached z can low high =
      let ps : List Part = pieces r parts in
      let ms : List ℕ = mosts ps in
      let h = possible_parts can in
      let cover : sum ms ≤ total (λ p. p.full) ps = mosts_low ps in
      let s : sum (slacks least ms) + sum (map (λ m. least) ms) ≡ sum ms = slacks_sum least ms h.room in
      let excess : ℕ = z - smallest parts r in
      let t = stretches_take_up_the_excess (slacks least ms) excess (omega arith) in
      let w = less_within least ms (stretches (slacks least ms) excess) h.room t.0 in (
        record { exists = λ none. omega (arith, h.exists); some = h.some; few = h.few; within = w.0 },
        omega (arith, t.1, w.1),
      )

pub a_span_tells_the_legal_sizes : ASpanTellsTheLegalSizes
a_span_tells_the_legal_sizes least parts r =
    cond_both (possible least parts r) (Some (smallest parts r, largest least parts r)) None (SpanTells least parts r)
    (λ can. record {
      inside = λ os a. let b = sizes_lie_between least parts r os a in (b.1, b.2);
      reached = λ z low high. sizes_are_reached least parts r z can low high;
    })
    (λ cannot os a. both_ways (possible least parts r) cannot (possible_from least parts r os a))
