-- The level and the stretches: what they add up to.
use Rattle.std.proofs.Common.{◌≡◌, ℕ, zero, suc, ◌+◌, ◌-◌, ◌<◌, ◌≤◌, min, Bool, true, max, leb, List, [], ◌∷◌, unwrap_or, refl, ap, ◌∙◌, ⊎_elim, arith}
use Rattle.std.proofs.lemmas.Bool.{cond_both, cases_lt, both_ways, leb-true, le-leb}
use Rattle.std.specs.List.{AllZip, fold, reduce}
use Rattle.choice.specs.Assemblies.{total, sum}
use Rattle.choice.specs.Laws.{TheLevelIsOne, StretchesTakeUpTheExcess}
use Rattle.choice.specs.Spreading.{highest, filled, last, level, Level, unit, spread}

-- the largest, as the library finds it
fold_highest : (s : ℕ) (ss : List ℕ) → fold max s ss ≡ max s (highest ss)
fold_highest s [] = omega arith
fold_highest s (t ∷ ss) = omega (arith, fold_highest (max s t) ss)

pub highest_is : (ss : List ℕ) → unwrap_or (reduce max ss) 0 ≡ highest ss
highest_is [] = refl
highest_is (s ∷ ss) = fold_highest s ss

-- `last` is the largest number up to n that passes
last_stands : (test : ℕ → Bool) (n : ℕ) → test 0 ≡ true
    → (last test n ≤ n) × (test (last test n) ≡ true) × ((k : ℕ) → k ≤ n → test k ≡ true → k ≤ last test n)
last_stands test zero t = (omega arith, t, λ k h u. h)
last_stands test (suc n) t =
    let ih = last_stands test n t in
    cond_both (test (suc n)) (suc n) (last test n)
    (λ x. (x ≤ suc n) × (test x ≡ true) × ((k : ℕ) → k ≤ suc n → test k ≡ true → k ≤ x))
    (λ e. (omega arith, e, λ k h u. h))
    (λ e. (
      omega arith,
      ih.1,
      λ k h u. ⊎_elim
          (λ (lt : k < suc n). ih.2 k (omega arith) u)
          (λ (ge : suc n ≤ k). let q : k ≡ suc n = omega arith in absurd (both_ways (test k) (ap test q ∙ e) u))
          (cases_lt k (suc n)),
    ))

filled_none : (ss : List ℕ) → filled 0 ss ≡ 0
filled_none [] = refl
filled_none (s ∷ ss) = omega (arith, filled_none ss)

pub level_stands : (ss : List ℕ) (excess : ℕ) → Level ss excess (level ss excess)
level_stands ss excess =
    let h = last_stands (λ l. leb (filled l ss) excess) (highest ss) (le-leb _ _ (omega (arith, filled_none ss))) in
    record { low = h.0; filled_by = leb-true _ _ h.1; top = λ k low f. h.2 k low (le-leb _ _ f) }

pub the_level_is_one : (ss : List ℕ) (excess : ℕ) → TheLevelIsOne ss excess
the_level_is_one ss excess =
    let a = level_stands ss excess in
    record { stands = a; alone = λ l b. omega (arith, a.top l b.low b.filled_by, b.top (level ss excess) a.low a.filled_by) }

filled_rises : (k l : ℕ) (ss : List ℕ) → k ≤ l → filled k ss ≤ filled l ss
filled_rises k l [] h = omega arith
filled_rises k l (s ∷ ss) h = omega (arith, filled_rises k l ss h)

-- what the excess fills is at most the level, and what it does not fill is above
pub level_from_filled : (ss : List ℕ) (excess k : ℕ) → k ≤ highest ss → filled k ss ≤ excess → k ≤ level ss excess
level_from_filled ss excess k h f = (level_stands ss excess).top k h f

pub level_from_unfilled : (ss : List ℕ) (excess k : ℕ) → excess < filled k ss → level ss excess < k
level_from_unfilled ss excess k f =
    let l : ℕ = level ss excess in
    ⊎_elim (λ (lt : l < k). lt) (λ (ge : k ≤ l). omega (arith, filled_rises k l ss ge, (level_stands ss excess).filled_by)) (cases_lt l k)

-- how many joints have a slack above l
abbrev above : ℕ → List ℕ → ℕ
above l ss = total (λ s. min 1 (s - l)) ss

filled_more : (l : ℕ) (ss : List ℕ) → filled (suc l) ss ≡ filled l ss + above l ss
filled_more l [] = refl
filled_more l (s ∷ ss) = omega (arith, filled_more l ss)

filled_whole : (l : ℕ) (ss : List ℕ) → highest ss ≤ l → filled l ss ≡ sum ss
filled_whole l [] h = refl
filled_whole l (s ∷ ss) h = omega (arith, filled_whole l ss (omega arith))

spread_sum : (l lacking : ℕ) (ss : List ℕ) → sum (spread l lacking ss) ≡ filled l ss + min lacking (above l ss)
spread_sum l lacking [] = omega arith
spread_sum l lacking (s ∷ ss) = omega (arith, spread_sum l (lacking - unit l lacking s) ss)

spread_below : (l lacking : ℕ) (ss : List ℕ) → AllZip (λ t s. t ≤ s) (spread l lacking ss) ss
spread_below l lacking [] = tt
spread_below l lacking (s ∷ ss) = (omega arith, spread_below l (lacking - unit l lacking s) ss)

-- no more is lacking than there are joints whose slack is above the level
lacking_few : (ss : List ℕ) (excess : ℕ) → excess ≤ sum ss
    → filled (level ss excess) ss + min (excess - filled (level ss excess) ss) (above (level ss excess) ss) ≡ excess
lacking_few ss excess h =
    let l : ℕ = level ss excess in
    let a : Level ss excess l = level_stands ss excess in
    let fits : filled l ss ≤ excess = a.filled_by in
    ⊎_elim
    (λ (lt : l < highest ss). ⊎_elim
    (λ (over : excess < filled (suc l) ss). omega (arith, filled_more l ss))
    (λ (under : filled (suc l) ss ≤ excess). omega (arith, a.top (suc l) lt under))
    (cases_lt excess (filled (suc l) ss)))
    (λ (ge : highest ss ≤ l). omega (arith, filled_whole l ss ge))
    (cases_lt l (highest ss))

pub stretches_take_up_the_excess : StretchesTakeUpTheExcess
stretches_take_up_the_excess ss excess h =
    let l : ℕ = level ss excess in
    (spread_below l (excess - filled l ss) ss, spread_sum l (excess - filled l ss) ss ∙ lacking_few ss excess h)
