-- A list's entries by their indexes, one after the other.
use Rattle.std.proofs.Common.{◌≡◌, ℕ, ◌+◌, ◌≤◌, List, ◌∷◌, length, drop, Some, None, Option, sym, ap, ◌∙◌, arith}
use Rattle.std.specs.Iterator.{YieldsFirst}
use Rattle.std.specs.List.{slice_get}
use Rattle.std.proofs.lemmas.List.{drop_all}
use Rattle.face.proofs.Indexes.{drop_nth, nth_outside}

-- the entry at an index is the first of those from there on, and none comes behind the last
pub next_entry : {X : Type 0} (xs before after : List X) (i k : ℕ) (r : Option X)
    → drop i xs ≡ before → drop k xs ≡ after → k ≡ i + 1 → r ≡ slice_get xs i → YieldsFirst (λ s. s) before r after
next_entry xs before after i k None from to next is =
    let outside : length xs ≤ i = nth_outside xs i (sym is) in
    (sym from ∙ drop_all i xs outside, sym to ∙ drop_all k xs (omega arith))
next_entry xs before after i k (Some x) from to next is =
    sym from ∙ (drop_nth xs i x (sym is) ∙ ap (λ z. x ∷ z) (ap (λ n. drop n xs) (sym next) ∙ to))
