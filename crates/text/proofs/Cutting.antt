-- A cut, by the index of the first separator.
use Rattle.std.proofs.Common.{◌≡◌, ℕ, ◌+◌, ◌==◌, if◌then◌else◌, suc, List, [], ◌∷◌, take, drop, Some, refl, arith}
use Rattle.std.proofs.lemmas.Grind.{common_steps}
use Rattle.std.specs.List.{position}
use Rattle.std.specs.Option.{option_map, option_map_or}
use Rattle.text.specs.Cuts.{before, after}

module _ (s : ℕ) where
  -- the first separator behind one more byte
  position_more : (b : ℕ) (bs : List ℕ)
      → position (λ x. x == s) (b ∷ bs) ≡ (if b == s then Some 0 else option_map suc (position (λ x. x == s) bs))
  position_more b bs = grind (arith, common_steps)

  pub before_at : (bs : List ℕ) → before s bs ≡ option_map_or (λ i. take i bs) (position (λ x. x == s) bs) bs
  before_at [] = refl
  before_at (b ∷ bs) = rw (position_more b bs, before_at bs) (grind (arith, common_steps))

  pub after_at : (bs : List ℕ) → after s bs ≡ option_map (λ i. drop (i + 1) bs) (position (λ x. x == s) bs)
  after_at [] = refl
  after_at (b ∷ bs) = rw (position_more b bs, after_at bs) (grind (arith, common_steps))
