-- The steps of reading digits.
use Rattle.std.proofs.Common.{◌≡◌, ℕ, ◌+◌, ◌-◌, ◌*◌, ◌^◌, ◌<◌, ◌≤◌, Bool, true, false, if◌then◌else◌, leb, List, length, get_or, drop, Some, None, sym, refl, ap, ◌∙◌, pow-suc, add-one, arith, rules}
use native.Mathlib.Nat.{pow-le-pow_right}
use Rattle.std.specs.Char.{is_ascii_digit}
use Rattle.std.specs.List.{list_all}
use Rattle.std.proofs.lemmas.List.{drop_more, drop_all}
use Rattle.std.proofs.lemmas.Bool.{and_parts, leb-true}
use Rattle.std.proofs.lemmas.Str.Parse.{IsNumeralModel, numerals_by_fold}
use Rattle.text.specs.Numbers.{decimal}

-- `is_ascii_digit` and `decimal` are what std knows of digits and their value
pub own : IsNumeralModel (λ ds. list_all is_ascii_digit ds ≡ true) (decimal 0)
own = numerals_by_fold _ (search rules) decimal (search rules)

-- the value of at most ten digits stays small
pub below_ten_digits : (n i : ℕ) → n < 10 ^ i → i ≤ 10 → n < 10000000000
below_ten_digits n i h l = let most : 10 ^ i ≤ 10 ^ 10 = pow-le-pow_right (omega arith) l in omega arith

more_digits : (n i d : ℕ) → n < 10 ^ i → d ≤ 9 → n * 10 + d < 10 ^ (i + 1)
more_digits n i d h l = rw (add-one, pow-suc) (omega arith)

-- what the answer at one byte tells
digit_there : (t : Bool) (v d : ℕ) → Some d ≡ (if t then Some v else None) → (t ≡ true) × (d ≡ v)
digit_there true v d e = (refl, cc)
digit_there false v d e = cc

digit_missing : (t : Bool) (v : ℕ) → None ≡ (if t then Some v else None) → t ≡ false
digit_missing true v e = cc
digit_missing false v e = refl

-- the digits below `i` have the value `n`: what is left gives the answer
abbrev pub Read : ℕ → List ℕ → ℕ → Type 0
Read n xs i = (n < 10 ^ i) × (list_all is_ascii_digit (drop i xs) ≡ list_all is_ascii_digit xs) × (decimal n (drop i xs) ≡ decimal 0 xs)

module _ (n : ℕ) (xs : List ℕ) (i : ℕ) (p : Read n xs i) where
  pub read_more : (d : ℕ) → i < length xs → Some d ≡ (if is_ascii_digit (get_or xs i 0) then Some (get_or xs i 0 - 48) else None) → Read (n * 10 + d) xs (i + 1)
  read_more d l e =
      let t = digit_there (is_ascii_digit (get_or xs i 0)) (get_or xs i 0 - 48) d e in
      let b = and_parts (leb 48 (get_or xs i 0)) _ t.0 in
      let high = leb-true (get_or xs i 0) 57 b.1 in
      let step = drop_more xs i 0 l in
      (more_digits n i d p.0 (omega (arith, t.1)), rw (step, t.0) at p.1, ap (λ k. decimal (n * 10 + k) (drop (i + 1) xs)) t.1 ∙ rw step at p.2)

  pub read_none : i < length xs → None ≡ (if is_ascii_digit (get_or xs i 0) then Some (get_or xs i 0 - 48) else None) → None ≡ (if list_all is_ascii_digit xs then Some (decimal 0 xs) else None)
  read_none l e =
      let t = digit_missing (is_ascii_digit (get_or xs i 0)) (get_or xs i 0 - 48) e in
      let no_digits : list_all is_ascii_digit xs ≡ false = sym p.1 ∙ rw (drop_more xs i 0 l, t) in
      rw no_digits

  pub read_all : length xs ≤ i → Some n ≡ (if list_all is_ascii_digit xs then Some (decimal 0 xs) else None)
  read_all l =
      let all : list_all is_ascii_digit xs ≡ true = sym p.1 ∙ rw (drop_all i xs l) in
      let is : n ≡ decimal 0 xs = rw (drop_all i xs l) at p.2 in
      rw (all, sym is)
