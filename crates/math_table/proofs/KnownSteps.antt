-- What a reading comes to where the outcome of each step is known.
use Rattle.std.proofs.Common.{◌≡◌, ℕ, suc, ◌+◌, ◌*◌, ◌≤◌, cond, eqb, List, [], ◌∷◌, length, Some, Ok, Result, sym, refl, ap, ◌∙◌, arith, ne_eqb}
use Rattle.std.specs.Option.{ok_or}
use Rattle.std.specs.List.{slice_get}
use Rattle.std.proofs.lemmas.Bool.{cond-false}
use Rattle.std.proofs.lemmas.Bool.Decides.{nat_tests}
use Rattle.face.specs.declared.faults.Cause.TheVariants.{OutsideTable}
use Rattle.face.specs.declared.faults.Fault.{Fault}
use Rattle.face.specs.declared.keys.Key.{Key}
use Rattle.math_table.specs.Offers.{WordIs}
use Rattle.math_table.specs.Reading.{byte_at, fault_at, word, bind, entries}

pub bind_to : {X Y : Type 0} {r : Result X Fault} {x : X} {s : Result Y Fault} (next : X → Result Y Fault) → r ≡ Ok x → next x ≡ s → bind r next ≡ s
bind_to next e rest = ap (λ r. bind r next) e ∙ rest

-- an offset that is not null leads on
pub past_null : {X : Type 0} {s t : Result X Fault} (n : ℕ) (r : Result X Fault) → (n ≡ 0 → ⊥) → s ≡ t → cond (eqb n 0) r s ≡ t
past_null n r not_null e = cond-false (eqb n 0) r _ (ne_eqb n 0 not_null) ∙ e

pub entries_to : {X : Type 0} (read : ℕ → Result X Fault) (size place : ℕ) (xs : List X)
    → ((i : ℕ) (x : X) → slice_get xs i ≡ Some x → read (place + size * i) ≡ Ok x) → entries read size (length xs) place ≡ Ok xs
entries_to read size place [] reads = refl
entries_to read size place (x ∷ xs) reads =
    let start : place + size * 0 ≡ place = omega arith in
    let step : (i : ℕ) → place + size * suc i ≡ place + size + size * i = λ i. omega arith in
    bind_to _ (ap read (sym start) ∙ reads 0 x refl) (
    bind_to _ (entries_to read size (place + size) xs (λ i y at. ap read (sym (step i)) ∙ reads (suc i) y at))
    refl)

pub word_to : (table : List ℕ) (key : Key) (place : ℕ) {w : ℕ} → WordIs table place w → word table key place ≡ Ok w
word_to table key place is = ap (λ o. ok_or o (fault_at OutsideTable key place)) is

pub word_inside : (table : List ℕ) (place : ℕ) → place + 2 ≤ length table → (w : ℕ) × WordIs table place w
word_inside table place inside = (byte_at table place * 256 + byte_at table (place + 1), grind (arith, nat_tests))

pub word_ends_inside : (table : List ℕ) (place w : ℕ) → WordIs table place w → place + 2 ≤ length table
word_ends_inside table place w is = grind (arith, nat_tests)
