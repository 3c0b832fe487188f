-- The first repeat count that passes, with the smallest size there that fits, is best of all.
use Rattle.std.proofs.Common.{◌≡◌, ℕ, zero, suc, ◌+◌, ◌*◌, ◌<◌, ◌≤◌, min, Bool, true, false, cond, List, [], ◌∷◌, ◌++◌, length, replicate, Some, None, Option, sym, refl, ap, ◌∙◌, ⊎_elim, add-one, arith, length-append, MatchOption}
use lib.ListN.{length-replicate}
use Rattle.std.proofs.lemmas.Bool.{cond-true, cond-false, cases_lt, cond_both, both_ways, false≢true, leb-true, le-leb}
use Rattle.face.specs.declared.parts.Part.{Part}
use Rattle.face.specs.Meaning.{Construction}
use Rattle.choice.specs.Assemblies.{pieces, extenders, Legal, size}
use Rattle.choice.specs.Choosing.{Fits, meets, reaches, first, chosen_size}
use Rattle.choice.specs.Spans.{smallest, largest, possible}
use Rattle.choice.specs.Spreading.{overlaps}
use Rattle.choice.specs.Unbettered.{BestAssembly}
use Rattle.choice.proofs.Repeating.{more_repeats_are_never_smaller}
use Rattle.choice.proofs.Sizing.{sizes_lie_between, sizes_are_reached}

-- what a search finds: the first number that passes, or that none does
pub first_stands : (test : ℕ → Bool) (r n : ℕ)
    → MatchOption (first test r n)
    ((k : ℕ) → r ≤ k → k < r + n → test k ≡ false)
    (λ f. (test f ≡ true) × ((k : ℕ) → r ≤ k → k < f → test k ≡ false))
unfolding first
first_stands test r zero = λ k low high. absurd (omega arith)
first_stands test r (suc n) =
    cond_both (test r) (Some r) (first test (suc r) n)
    (λ o. MatchOption o ((k : ℕ) → r ≤ k → k < r + suc n → test k ≡ false) (λ f. (test f ≡ true) × ((k : ℕ) → r ≤ k → k < f → test k ≡ false)))
    (λ e. (e, λ k low high. absurd (omega arith)))
    (λ e. cases_weaker (first test (suc r) n) (first_stands test (suc r) n)
    (λ all k low high. from e low (λ more. all k more (omega arith)))
    (λ f is. (is.0, λ k low high. from e low (λ more. is.1 k more high))))
  where
    cases_weaker : {T P P' : Type 0} {Q Q' : T → Type 0} (o : Option T) → MatchOption o P Q → (P → P') → ((x : T) → Q x → Q' x) → MatchOption o P' Q'
    cases_weaker None h f g = f h
    cases_weaker (Some x) h f g = g x h

    from : {k : ℕ} → test r ≡ false → r ≤ k → (suc r ≤ k → test k ≡ false) → test k ≡ false
    from {k} e low more =
        ⊎_elim (λ (lt : r < k). more lt) (λ (ge : k ≤ r). let q : k ≡ r = omega arith in ap test q ∙ e) (cases_lt r k)

-- the steps of a search
pub first_yes : (test : ℕ → Bool) (r n : ℕ) → 0 < n → test r ≡ true → first test r n ≡ Some r
unfolding first
first_yes test r zero h e = absurd (omega arith)
first_yes test r (suc n) h e = cond-true (test r) (Some r) (first test (suc r) n) e

pub first_no : (test : ℕ → Bool) (r n m : ℕ) → n ≡ suc m → test r ≡ false → first test r n ≡ first test (r + 1) m
unfolding first
first_no test r n m en e =
    ap (first test r) en ∙ cond-false (test r) (Some r) (first test (suc r) m) e ∙ ap (λ k. first test k m) (sym (add-one r))

-- where no number from r on passes, none is found
pub first_none : (test : ℕ → Bool) (r n : ℕ) → ((k : ℕ) → r ≤ k → test k ≡ false) → first test r n ≡ None
unfolding first
first_none test r zero fails = refl
first_none test r (suc n) fails =
    cond-false (test r) (Some r) (first test (suc r) n) (fails r (omega arith)) ∙ first_none test (suc r) n (λ k h. fails k (omega arith))

-- an extender stands r times
pub pieces_many : (parts : List Part) (r : ℕ) → r * length (extenders parts) ≤ length (pieces r parts)
pieces_many [] r = omega arith
pieces_many (p ∷ ps) r =
    let ih = pieces_many ps r in
    elim p.extender as (λ b. r * length (cond b (p ∷ extenders ps) (extenders ps)) ≤ length (replicate (cond b r 1) p ++ pieces r ps))
    [ true ↦ simp (length-append, length-replicate) (omega arith) | false ↦ omega arith ]

module _ (least limit target : ℕ) (parts : List Part) where
  meets_span : (r : ℕ) → possible least parts r ≡ true
      → chosen_size target parts r ≤ min limit (largest least parts r) → reaches least limit target parts r ≡ true
  meets_span r can h = rw can (le-leb _ _ h)

  reaches_parts : (r : ℕ) → reaches least limit target parts r ≡ true
      → (possible least parts r ≡ true) × (chosen_size target parts r ≤ min limit (largest least parts r))
  reaches_parts r =
      cond_both (possible least parts r) (Some (smallest parts r, largest least parts r)) None
      (λ s. meets target limit s ≡ true → (possible least parts r ≡ true) × (chosen_size target parts r ≤ min limit (largest least parts r)))
      (λ can h. (can, leb-true _ _ h))
      (λ cannot h. absurd (false≢true h))

  -- where a legal assembly fits, the test passes
  pub reaches_all : (r : ℕ) (os : List ℕ) → Legal least parts r os → Fits target limit (size (pieces r parts) os) → reaches least limit target parts r ≡ true
  reaches_all r os a fits =
      let b = sizes_lie_between least parts r os a in
      meets_span r b.0 (omega (arith, b.1, b.2, fits.0, fits.1))

  -- no more repeats than pieces
  pub repeats_few : (r : ℕ) (os : List ℕ) → Legal least parts r os → r < 4097
  repeats_few r os a = go (length (extenders parts)) a.exists (pieces_many parts r)
    where
      go : (n : ℕ) → (n ≡ 0 → r ≡ 0) → r * n ≤ length (pieces r parts) → r < 4097
      go zero none many = omega (arith, none refl)
      go (suc n) none many = omega arith

module _ (c : Construction) (target : ℕ) where
  abbrev test : ℕ → Bool
  test = reaches c.least c.limit target c.parts

  -- the first repeat count that passes, with the chosen size, is the best
  pub first_is_best : (r : ℕ) → test r ≡ true → ((k : ℕ) → k < r → test k ≡ false)
      → BestAssembly c target r (overlaps c.least c.parts r (chosen_size target c.parts r))
      × (size (pieces r c.parts) (overlaps c.least c.parts r (chosen_size target c.parts r)) ≡ chosen_size target c.parts r)
  first_is_best r reach before =
      let parts : List Part = c.parts in
      let can = reaches_parts c.least c.limit target parts r reach in
      let z : ℕ = chosen_size target parts r in
      let s = sizes_are_reached c.least parts r z can.0 (omega arith) (omega arith) in (
        record {
          legal = s.0;
          fits = (omega (arith, s.1), omega (arith, s.1));
          best = λ k us a f. ⊎_elim
              (λ (lt : k < r). absurd (both_ways _ (before k lt) (reaches_all c.least c.limit target parts k us a f)))
              (λ (ge : r ≤ k). (ge, omega (arith, s.1, more_repeats_are_never_smaller parts r k ge, (sizes_lie_between c.least parts k us a).1, f.0)))
              (cases_lt k r);
        },
        s.1,
      )
