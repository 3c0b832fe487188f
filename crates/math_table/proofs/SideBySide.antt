-- Words side by side.
use Rattle.std.proofs.Common.{◌≡◌, ℕ, zero, suc, ◌+◌, ◌-◌, ◌*◌, ◌/◌, ◌<◌, ◌≤◌, true, false, leb, List, length, Ok, Err, refl, ⊎_elim, arith}
use Rattle.std.proofs.lemmas.Bool.{le-leb, cases_lt, lt-leb}
use Rattle.face.specs.declared.faults.Cause.TheVariants.{OutsideTable}
use Rattle.face.specs.declared.keys.Key.{Key}
use Rattle.math_table.specs.Reading.{fault_at}
use Rattle.math_table.specs.Shapes.{words_inside}

module _ (table : List ℕ) (key : Key) where
  -- as many words as the table still has are inside it
  pub all_inside : (n place : ℕ) → n ≤ (length table - place) / 2 → Ok tt ≡ words_inside table key n place
  all_inside zero place h = refl
  all_inside (suc n) place h =
      let here : leb (place + 2) (length table) ≡ true = le-leb _ _ (omega arith) in
      rw here (all_inside n (place + 2) (omega arith))

  -- of more, the first one outside comes after those
  pub first_outside : (n place : ℕ) → (length table - place) / 2 < n → Err (fault_at OutsideTable key (place + 2 * ((length table - place) / 2))) ≡ words_inside table key n place
  first_outside zero place h = absurd (omega arith)
  first_outside (suc n) place h =
      ⊎_elim
      (λ (lt : length table < place + 2).
      let here : leb (place + 2) (length table) ≡ false = lt-leb _ _ lt in
      let none : place + 2 * ((length table - place) / 2) ≡ place = omega arith in
      rw (here, none))
      (λ (ge : place + 2 ≤ length table).
      let here : leb (place + 2) (length table) ≡ true = le-leb _ _ ge in
      let one : place + 2 * ((length table - place) / 2) ≡ place + 2 + 2 * ((length table - (place + 2)) / 2) = omega arith in
      rw (here, one) (first_outside n (place + 2) (omega arith)))
      (cases_lt (length table) (place + 2))

pub ruleset told_by_length = (all_inside, first_outside)
