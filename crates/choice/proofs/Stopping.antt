-- The search over repeat counts: where it stops, and what it has found then.
use Rattle.std.proofs.Common.{◌≡◌, ℕ, ◌+◌, ◌-◌, ◌<◌, ◌≤◌, Bool, true, false, cond, ltb, List, length, Some, None, sym, refl, ap, ◌∙◌, ⊎_elim, arith}
use Rattle.std.proofs.lemmas.Bool.{cond_both, cond-true, cond-false, false_from_ne_true, ltb-true, lt-leb, or_cases}
use Rattle.std.proofs.lemmas.Option.{cond_some}
use Rattle.std.specs.Option.{option_map}
use Rattle.face.specs.declared.parts.Part.{Part}
use Rattle.face.specs.Meaning.{Construction}
use Rattle.choice.specs.declared.signs.Sign.TheVariants.{Assembly}
use Rattle.choice.specs.declared.sums.Sums.{Sums}
use Rattle.choice.specs.declared.totals.Totals.{Totals}
use Rattle.choice.specs.Assemblies.{MOST_PIECES, pieces}
use Rattle.choice.specs.Choosing.{meets, reaches, first, repeats, chosen_size, assembly}
use Rattle.choice.specs.Spans.{smallest, largest, possible, span}
use Rattle.choice.specs.Sums.{sums_of, span_of_sums, past, fitting_size}
use Rattle.choice.specs.Totals.{Describes, SumsAt, NoneFrom}
use Rattle.choice.proofs.Repeating.{more_repeats_are_never_smaller, more_repeats_more_pieces}
use Rattle.choice.proofs.Spanning.{span_at, too_many}
use Rattle.choice.proofs.Taking.{first_yes, first_no, first_none}

module _ (least limit target : ℕ) (parts : List Part) where
  -- a repeat count does not reach the target where no assembly is legal, or all are above the limit
  not_possible : (k : ℕ) → possible least parts k ≡ false → reaches least limit target parts k ≡ false
  not_possible k out = ap (meets target limit) (cond-false (possible least parts k) _ None out)

  above_limit : (k : ℕ) → limit < smallest parts k → reaches least limit target parts k ≡ false
  above_limit k above =
      cond_both (possible least parts k) (Some (smallest parts k, largest least parts k)) None (λ s. meets target limit s ≡ false)
      (λ can. lt-leb _ _ (omega arith))
      (λ cannot. refl)

  -- past a repeat count none reaches the target
  none_past : (r : ℕ) → past limit (sums_of least (pieces r parts)) ≡ true → (k : ℕ) → r ≤ k → reaches least limit target parts k ≡ false
  none_past r is k low =
      ⊎_elim
      (λ many. not_possible k (too_many least parts k (omega (arith, ltb-true _ _ many, more_repeats_more_pieces parts r k low))))
      (λ long. above_limit k (omega (arith, ltb-true _ _ long, more_repeats_are_never_smaller parts r k low)))
      (or_cases (ltb MOST_PIECES (length (pieces r parts))) (ltb limit (smallest parts r)) is)

  -- a size is found where the repeat count reaches the target
  fitting_span : (r : ℕ) → fitting_size target limit (span least parts r) ≡ cond (reaches least limit target parts r) (Some (chosen_size target parts r)) None
  fitting_span r =
      cond_both (possible least parts r) (Some (smallest parts r, largest least parts r)) None
      (λ o. fitting_size target limit o ≡ cond (meets target limit o) (Some (chosen_size target parts r)) None)
      (λ can. refl)
      (λ cannot. refl)

module _ (t : Totals) (limit target r : ℕ) (c : Construction) (d : Describes t c)
    (left : first (reaches c.least limit target c.parts) r (4097 - r) ≡ repeats c.least limit target c.parts) where
  abbrev test : ℕ → Bool
  test = reaches c.least limit target c.parts

  -- no count from here on reaches the target
  ends : ((k : ℕ) → r ≤ k → test k ≡ false) → None ≡ option_map (assembly target c.parts) (repeats c.least limit target c.parts)
  ends fails = ap (option_map (assembly target c.parts)) (sym (first_none test r (4097 - r) fails) ∙ left)

  pub ends_none : NoneFrom t r → None ≡ option_map (assembly target c.parts) (repeats c.least limit target c.parts)
  ends_none none = ends (λ k low. not_possible c.least limit target c.parts k (none.none c d k low))

  module _ (s : Sums) (at : SumsAt t r s) where
    fitting_is : fitting_size target limit (span_of_sums t.least s) ≡ cond (test r) (Some (chosen_size target c.parts r)) None
    fitting_is = ap (fitting_size target limit) (span_at t r s at c d) ∙ fitting_span c.least limit target c.parts r

    pub ends_past : past limit s ≡ true → None ≡ option_map (assembly target c.parts) (repeats c.least limit target c.parts)
    ends_past is = ends (none_past c.least limit target c.parts r (ap (past limit) (sym (at.are c d).1) ∙ is))

    -- the count here reaches the target
    pub ends_found : (z : ℕ) → Some z ≡ fitting_size target limit (span_of_sums t.least s)
        → Some (Assembly r z s.pieces) ≡ option_map (assembly target c.parts) (repeats c.least limit target c.parts)
    ends_found z fits =
        let f = cond_some (test r) (chosen_size target c.parts r) z (sym (fits ∙ fitting_is)) in
        let found : Some r ≡ repeats c.least limit target c.parts
        = sym (first_yes test r (4097 - r) (omega (arith, at.low)) f.0) ∙ left in
        (λ i. Some (Assembly r (sym f.1 i) ((at.are c d).1 i).pieces)) ∙ ap (option_map (assembly target c.parts)) found

    -- it does not, and the search goes on
    pub goes_on : None ≡ fitting_size target limit (span_of_sums t.least s)
        → first test (r + 1) (4097 - (r + 1)) ≡ repeats c.least limit target c.parts
    goes_on misfits =
        let fails : test r ≡ false = false_from_ne_true (test r) (λ reach. let found = misfits ∙ fitting_is ∙ cond-true (test r) _ None reach in cc) in
        sym (first_no test r (4097 - r) (4097 - (r + 1)) (omega (arith, at.low)) fails) ∙ left
