-- More repeats never make the size with every joint at its most smaller.
use Rattle.std.proofs.Common.{◌≡◌, ℕ, zero, suc, ◌+◌, ◌≤◌, true, false, cond, List, [], ◌∷◌, ◌++◌, length, replicate, refl, arith}
use Rattle.face.specs.declared.parts.Part.{Part}
use Rattle.choice.specs.Assemblies.{total, sum, copies, pieces, most, mosts_from, mosts}
use Rattle.choice.specs.Laws.{MoreRepeatsAreNeverSmaller}
use Rattle.choice.proofs.Sizing.{mosts_low}

-- the pieces qs are the pieces ps with others inserted
data Inserted : List Part → List Part → Type 0 where
  none : Inserted [] []
  keep : {p : Part} {ps qs : List Part} → Inserted ps qs → Inserted (p ∷ ps) (p ∷ qs)
  more : {q : Part} {ps qs : List Part} → Inserted ps qs → Inserted ps (q ∷ qs)

-- a piece inserted after a, before ps
one_more : (a q : Part) (ps : List Part) → most a q + sum (mosts_from q ps) ≤ q.full + sum (mosts_from a ps)
one_more a q [] = omega arith
one_more a q (p ∷ ps) = omega arith

grown_from : {ps qs : List Part} → (a : Part) → Inserted ps qs
    → total (λ p. p.full) ps + sum (mosts_from a qs) ≤ total (λ p. p.full) qs + sum (mosts_from a ps)
grown_from a none = omega arith
grown_from a (keep {p = p} w) = omega (arith, grown_from p w)
grown_from a (more {q = q} {ps = ps} w) = omega (arith, grown_from q w, one_more a q ps)

-- a piece that overlaps nothing, to stand before all
pub nothing : Part
nothing = record { face = 0; glyph = 0; start = 0; end = 0; full = 0; extender = false; starts = omega arith; ends = omega arith }

pub after_nothing : (ps : List Part) → sum (mosts_from nothing ps) ≡ sum (mosts ps)
unfolding nothing
after_nothing [] = refl
after_nothing (p ∷ ps) = omega arith

grown : {ps qs : List Part} → Inserted ps qs
    → total (λ p. p.full) ps + sum (mosts qs) ≤ total (λ p. p.full) qs + sum (mosts ps)
grown {ps} {qs} w = omega (arith, grown_from nothing w, after_nothing ps, after_nothing qs)

inserted_copies : (p : Part) (r k : ℕ) {ps qs : List Part} → r ≤ k → Inserted ps qs → Inserted (replicate r p ++ ps) (replicate k p ++ qs)
inserted_copies p zero zero h w = w
inserted_copies p zero (suc k) h w = more (inserted_copies p zero k (omega arith) w)
inserted_copies p (suc r) zero h w = absurd (omega arith)
inserted_copies p (suc r) (suc k) h w = keep (inserted_copies p r k (omega arith) w)

copies_grow : (p : Part) (r k : ℕ) → r ≤ k → copies r p ≤ copies k p
copies_grow p r k h = elim p.extender as (λ b. cond b r 1 ≤ cond b k 1) [ true ↦ h | false ↦ omega arith ]

inserted_pieces : (parts : List Part) (r k : ℕ) → r ≤ k → Inserted (pieces r parts) (pieces k parts)
inserted_pieces [] r k h = none
inserted_pieces (p ∷ ps) r k h = inserted_copies p (copies r p) (copies k p) (copies_grow p r k h) (inserted_pieces ps r k h)

pub more_repeats_are_never_smaller : MoreRepeatsAreNeverSmaller
more_repeats_are_never_smaller parts r k h =
    omega (arith, grown (inserted_pieces parts r k h), mosts_low (pieces r parts), mosts_low (pieces k parts))

inserted_longer : {ps qs : List Part} → Inserted ps qs → length ps ≤ length qs
inserted_longer none = omega arith
inserted_longer (keep w) = omega (arith, inserted_longer w)
inserted_longer (more w) = omega (arith, inserted_longer w)

pub more_repeats_more_pieces : (parts : List Part) (r k : ℕ) → r ≤ k → length (pieces r parts) ≤ length (pieces k parts)
more_repeats_more_pieces parts r k h = inserted_longer (inserted_pieces parts r k h)
