-- Two numbers that are written with a tab between them are two fields.
use Rattle.std.proofs.Common.{◌≡◌, ℕ, ◌^◌, ◌<◌, List, ◌∷◌, ◌++◌, Some, decimal as written, ◌∙◌, arith}
use Rattle.text.proofs.Joining.{after_without, what_is_joined_is_cut_there}
use Rattle.text.proofs.Written.{written_without}
use Rattle.signs.specs.Fields.{parted, two_fields}

-- the second field holds no tab
one_tab : (front : List ℕ) (n : ℕ) → n < 2 ^ 64 → parted front (Some (written n)) ≡ Some (front, written n)
one_tab front n small = rw (after_without 9 (written n) (written_without 9 n (omega arith) small))

pub numbers_are_two_fields : (a b : ℕ) → a < 2 ^ 64 → b < 2 ^ 64 → two_fields (written a ++ 9 ∷ written b) ≡ Some (written a, written b)
numbers_are_two_fields a b small small' =
    let cut = what_is_joined_is_cut_there 9 (written a) (written b) (written_without 9 a (omega arith) small) in
    (λ i. parted (cut.0 i) (cut.1 i)) ∙ one_tab (written a) b small'
