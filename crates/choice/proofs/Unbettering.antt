-- What is chosen cannot be bettered.
use Rattle.std.proofs.Common.{◌≡◌, ℕ, zero, suc, ◌+◌, ◌-◌, ◌<◌, ◌≤◌, true, false, leb, List, [], ◌∷◌, Some, None, Ok, Err, Option, Result, refl, ap, ◌∙◌, arith, MatchOption}
use Rattle.std.proofs.lemmas.Bool.{cond_both, both_ways, leb-true, le-leb, and_parts, and_from}
use Rattle.std.specs.Option.{option_map, ok_or, option_or}
use Rattle.std.specs.List.{slice_get}
use Rattle.face.specs.declared.variants.Variant.{Variant}
use Rattle.face.specs.Meaning.{Meaning, unknown, faulty, construction, Construction}
use Rattle.choice.specs.declared.signs.Missing.TheVariants.{Unknown, NothingFits}
use Rattle.choice.specs.declared.signs.NoSign.{NoSign}
use Rattle.choice.specs.declared.signs.NoSign.TheVariants.{Missing, Faulty}
use Rattle.choice.specs.declared.signs.Sign.{Sign}
use Rattle.choice.specs.declared.signs.Sign.TheVariants.{Variant as ReadyMade, Assembly}
use Rattle.choice.specs.Choosing.{Fits, fits, first_variant, reaches, repeats, assembly, chosen, choice}
use Rattle.choice.specs.Laws.{NothingFitsExactly}
use Rattle.choice.specs.Unbettered.{NoVariantFits, NoAssemblyFits, UnbetteredSign, UnbetteredIn, Unbettered}
use Rattle.choice.proofs.Taking.{first_stands, first_is_best, reaches_all, repeats_few}

fits_so : (target limit z : ℕ) → fits target limit z ≡ true → Fits target limit z
fits_so target limit z t = let p = and_parts (leb target z) (leb z limit) t in (leb-true target z p.0, leb-true z limit p.1)

fits_not : (target limit z : ℕ) → fits target limit z ≡ false → Fits target limit z → ⊥
fits_not target limit z t f = both_ways (fits target limit z) t (and_from _ _ (le-leb target z f.0) (le-leb z limit f.1))

-- what the search among variants finds, of those from index i on
module _ (target limit : ℕ) where
  -- no variant of a list fits
  abbrev NoneFits : List Variant → Type 0
  NoneFits vs = (j : ℕ) (w : Variant) → slice_get vs j ≡ Some w → Fits target limit w.advance → ⊥

  pub record Found (i k : ℕ) (v : Variant) (vs : List Variant) : Type 0 where
    pub from : i ≤ k
    pub at : slice_get vs (k - i) ≡ Some v
    pub fitting : Fits target limit v.advance
    pub before : (j : ℕ) (w : Variant) → j < k - i → slice_get vs j ≡ Some w → Fits target limit w.advance → ⊥

  abbrev IsFound : ℕ → List Variant → Sign → Type 0
  IsFound i vs (ReadyMade k v) = Found i k v vs
  IsFound i vs (Assembly r z n) = ⊥

  none_fits_more : (v : Variant) (vs : List Variant) → (Fits target limit v.advance → ⊥) → NoneFits vs → NoneFits (v ∷ vs)
  none_fits_more v vs misfit none zero w at f = let is : v ≡ w = cc in misfit (rw is f)
  none_fits_more v vs misfit none (suc j) w at f = none j w at f

  found_more : (i : ℕ) (v : Variant) (vs : List Variant) (s : Sign) → (Fits target limit v.advance → ⊥) → IsFound (i + 1) vs s → IsFound i (v ∷ vs) s
  found_more i v vs (Assembly r z n) misfit found = found
  found_more i v vs (ReadyMade k u) misfit found =
      let n : ℕ = k - (i + 1) in
      let e : k - i ≡ suc n = omega (arith, found.from) in
      record {
        from = omega (arith, found.from);
        at = ap (slice_get (v ∷ vs)) e ∙ found.at;
        fitting = found.fitting;
        before = λ j w less at f. earlier n (λ j w less. found.before j w less) j w (omega arith) at f;
      }
    where
      earlier : (n : ℕ) → ((j : ℕ) (w : Variant) → j < n → slice_get vs j ≡ Some w → Fits target limit w.advance → ⊥)
          → (j : ℕ) (w : Variant) → j < suc n → slice_get (v ∷ vs) j ≡ Some w → Fits target limit w.advance → ⊥
      earlier n before zero w less at f = let is : v ≡ w = cc in misfit (rw is f)
      earlier n before (suc j) w less at f = before j w (omega arith) at f

  pub first_variant_stands : (i : ℕ) (vs : List Variant) → MatchOption (first_variant target limit i vs) (NoneFits vs) (IsFound i vs)
  first_variant_stands i [] = λ j w at f. cc
  first_variant_stands i (v ∷ vs) =
      cond_both (fits target limit v.advance) (Some (ReadyMade i v)) (first_variant target limit (i + 1) vs)
      (λ o. MatchOption o (NoneFits (v ∷ vs)) (IsFound i (v ∷ vs)))
      (λ t. let e : i - i ≡ 0 = omega arith in
      record { from = omega arith; at = ap (slice_get (v ∷ vs)) e; fitting = fits_so target limit v.advance t; before = λ j w less at f. omega arith })
      (λ t. further (first_variant target limit (i + 1) vs) (fits_not target limit v.advance t) (first_variant_stands (i + 1) vs))
    where
      further : (o : Option Sign) → (Fits target limit v.advance → ⊥) → MatchOption o (NoneFits vs) (IsFound (i + 1) vs) → MatchOption o (NoneFits (v ∷ vs)) (IsFound i (v ∷ vs))
      further None misfit h = none_fits_more v vs misfit h
      further (Some s) misfit h = found_more i v vs s misfit h

module _ (c : Construction) (target : ℕ) where
  -- the search among repeat counts: no legal assembly fits, or the best is found
  pub repeats_stand : MatchOption (repeats c.least c.limit target c.parts)
      (NoAssemblyFits c target)
      (λ r. NoVariantFits c target → UnbetteredSign c target (assembly target c.parts r))
  repeats_stand =
      found (repeats c.least c.limit target c.parts) (first_stands (reaches c.least c.limit target c.parts) 0 4097)
    where
      found : (o : Option ℕ) → MatchOption o
          ((k : ℕ) → 0 ≤ k → k < 0 + 4097 → reaches c.least c.limit target c.parts k ≡ false)
          (λ f. (reaches c.least c.limit target c.parts f ≡ true) × ((k : ℕ) → 0 ≤ k → k < f → reaches c.least c.limit target c.parts k ≡ false))
          → MatchOption o (NoAssemblyFits c target) (λ r. NoVariantFits c target → UnbetteredSign c target (assembly target c.parts r))
      found None fails = λ r os a f.
          both_ways _ (fails r (omega arith) (omega (arith, repeats_few c.least c.limit target c.parts r os a)))
          (reaches_all c.least c.limit target c.parts r os a f)
      found (Some r) is = λ none.
          let b = first_is_best c target r is.0 (λ k less. is.1 k (omega arith) less) in
          record { no_variant = none; best = b.0; size_is = b.1; pieces_are = refl }

  -- a sign that was found among the variants
  first_found : (s : Sign) → IsFound target c.limit 0 c.variants s → UnbetteredSign c target s
  first_found (Assembly r z n) h = absurd h
  first_found (ReadyMade i v) h =
      let e : i - 0 ≡ i = omega arith in
      record { at = rw e at h.at; fits = h.fitting; first = λ j w less at f. h.before j w (omega arith) at f }

  pub chosen_is_unbettered : UnbetteredIn c target (ok_or (chosen c target) (Missing NothingFits))
  chosen_is_unbettered =
      either (first_variant target c.limit 0 c.variants) (first_variant_stands target c.limit 0 c.variants)
      (repeats c.least c.limit target c.parts) repeats_stand
    where
      either : (o : Option Sign) → MatchOption o (NoVariantFits c target) (IsFound target c.limit 0 c.variants)
          → (p : Option ℕ) → MatchOption p (NoAssemblyFits c target) (λ r. NoVariantFits c target → UnbetteredSign c target (assembly target c.parts r))
          → UnbetteredIn c target (ok_or (option_or o (option_map (assembly target c.parts) p)) (Missing NothingFits))
      either (Some s) h p k = first_found s h
      either None h (Some r) k = k h
      either None h None k = (h, k)

-- the choice for a key cannot be bettered
pub the_choice_is_unbettered : (m : Meaning) (target : ℕ) (answer : Result Sign NoSign) → answer ≡ choice m target → Unbettered m target answer
the_choice_is_unbettered unknown target answer e = e
the_choice_is_unbettered (faulty f) target answer e = e
the_choice_is_unbettered (construction c) target answer e = rw e (chosen_is_unbettered c target)

-- an answer for a construction that cannot be bettered is that nothing fits, exactly where nothing does
module _ (c : Construction) (target : ℕ) where
  none_so : (a : Result Sign NoSign) → UnbetteredIn c target a → a ≡ Err (Missing NothingFits) → NoVariantFits c target × NoAssemblyFits c target
  none_so a u e = rw e at u

  none_only : (a : Result Sign NoSign) → UnbetteredIn c target a → NoVariantFits c target → NoAssemblyFits c target → a ≡ Err (Missing NothingFits)
  none_only (Ok (ReadyMade i v)) u no_variant no_assembly = absurd (no_variant i v u.at u.fits)
  none_only (Ok (Assembly r z n)) u no_variant no_assembly = absurd (no_assembly r _ u.best.legal u.best.fits)
  none_only (Err (Missing NothingFits)) u no_variant no_assembly = refl
  none_only (Err (Missing Unknown)) u no_variant no_assembly = absurd u
  none_only (Err (Faulty f)) u no_variant no_assembly = absurd u

  pub nothing_fits_exactly : NothingFitsExactly c target
  nothing_fits_exactly =
      record {
        so = λ e. none_so _ (chosen_is_unbettered c target) e;
        only = λ no_variant no_assembly. none_only _ (chosen_is_unbettered c target) no_variant no_assembly;
      }
