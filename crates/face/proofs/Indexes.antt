-- The entries of lists by their indexes.
use Rattle.std.proofs.Common.{◌≡◌, ℕ, zero, suc, ◌+◌, ◌<◌, ◌≤◌, List, [], ◌∷◌, ◌++◌, length, get_or, drop, Some, None, refl, ap, arith}
use Rattle.std.specs.List.{All, slice_get}
use Rattle.std.proofs.lemmas.Option.{slice_get-get_or}

-- the entries of two lists, one after the other
pub nth_front : {X : Type 0} (xs ys : List X) (i : ℕ) → i < length xs → slice_get (xs ++ ys) i ≡ slice_get xs i
nth_front [] ys i less = absurd (omega arith)
nth_front (x ∷ xs) ys zero less = refl
nth_front (x ∷ xs) ys (suc i) less = nth_front xs ys i (omega arith)

pub nth_back : {X : Type 0} (xs ys : List X) (i : ℕ) → slice_get (xs ++ ys) (length xs + i) ≡ slice_get ys i
nth_back [] ys i = let is : 0 + i ≡ i = omega arith in rw is
nth_back (x ∷ xs) ys i = let is : length (x ∷ xs) + i ≡ suc (length xs + i) = omega arith in rw is (nth_back xs ys i)

-- where there is no entry, the list has ended
pub nth_outside : {X : Type 0} (xs : List X) (i : ℕ) → slice_get xs i ≡ None → length xs ≤ i
nth_outside [] i at = omega arith
nth_outside (x ∷ xs) zero at = cc
nth_outside (x ∷ xs) (suc i) at = omega (arith, nth_outside xs i at)

-- what is left of a list from an entry on
pub drop_nth : {X : Type 0} (xs : List X) (i : ℕ) (x : X) → slice_get xs i ≡ Some x → drop i xs ≡ x ∷ drop (i + 1) xs
drop_nth [] i x at = cc
drop_nth (y ∷ ys) zero x at = ap (λ z. z ∷ ys) cc
drop_nth (y ∷ ys) (suc i) x at = let more : suc i + 1 ≡ suc (i + 1) = omega arith in rw more (drop_nth ys i x at)

-- what holds of the entry at each index holds of all
pub all_from_nth : {X : Type 0} (P : X → Type 0) (xs : List X) → ((i : ℕ) (x : X) → slice_get xs i ≡ Some x → P x) → All P xs
all_from_nth P xs holds i d less = holds i (get_or xs i d) (slice_get-get_or xs i d less)
