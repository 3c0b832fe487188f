-- The lengths of a key by their places.
use Rattle.std.proofs.Common.{◌≡◌, ℕ, ◌+◌, ◌*◌, ◌<◌, ◌≤◌, true, leb, List, [], ◌∷◌, ◌++◌, map, length, None, sym, refl, ap, ◌∙◌, mul-le-mul_left, arith}
use lib.ListN.{length-map}
use Rattle.std.proofs.lemmas.List.Elements.{All-cons, All-head, All-tail, All-append, All-map, All-weaker}
use Rattle.std.proofs.lemmas.Bool.{leb-true, le-leb}
use Rattle.std.specs.Option.{option_map}
use Rattle.std.specs.List.{All, slice_get}
use Rattle.face.specs.Bounds.{LARGEST, Bounded}
use Rattle.face.specs.declared.parts.Part.{Part}
use Rattle.face.specs.declared.variants.Variant.{Variant}
use Rattle.face.specs.Meaning.{Meaning, unknown, faulty, construction}
use Rattle.layers.specs.Answers.{lengths_of}
use Rattle.layers.specs.Scaling.{lengths, first_too_long}
use Rattle.std.proofs.lemmas.Option.{slice_get-map}
use Rattle.face.proofs.Indexes.{nth_front, nth_back}

-- the length of a variant, and of a part, which comes after those of all variants
pub variant_length : (vs : List Variant) (ys : List ℕ) (i : ℕ) → i < length vs → slice_get (map (λ v. v.advance) vs ++ ys) i ≡ option_map (λ v. v.advance) (slice_get vs i)
variant_length vs ys i less = nth_front (map (λ v. v.advance) vs) ys i (omega (arith, length-map vs (λ v. v.advance))) ∙ slice_get-map (λ v. v.advance) vs i

pub part_length : (vs : List Variant) (ps : List Part) (i : ℕ) → slice_get (map (λ v. v.advance) vs ++ map (λ p. p.full) ps) (length vs + i) ≡ option_map (λ p. p.full) (slice_get ps i)
part_length vs ps i =
    let advances = map (λ v. v.advance) vs in
    let fulls = map (λ p. p.full) ps in
    let as_many : length vs ≡ length advances = sym (length-map vs (λ v. v.advance)) in
    ap (λ n. slice_get (advances ++ fulls) (n + i)) as_many ∙ nth_back advances fulls i ∙ slice_get-map (λ p. p.full) ps i

module _ (k : ℕ) where
  -- where every length fits, none is found
  pub all_fit_none : (from : ℕ) (xs : List ℕ) → All (λ x. k * x ≤ LARGEST) xs → first_too_long k from xs ≡ None
  all_fit_none from [] fit = refl
  all_fit_none from (x ∷ xs) fit =
      rw (le-leb (k * x) LARGEST (All-head (λ x. k * x ≤ LARGEST) x xs fit)) (all_fit_none (from + 1) xs (All-tail (λ x. k * x ≤ LARGEST) x xs fit))

-- where no length of a key is above n, and n fits, none is too long
pub longest_fits : (k n : ℕ) (m : Meaning) → Bounded n m → leb (k * n) LARGEST ≡ true → first_too_long k 0 (lengths_of m) ≡ None
longest_fits k n unknown b fits = refl
longest_fits k n (faulty f) b fits = refl
longest_fits k n (construction c) b fits =
    let most = leb-true (k * n) LARGEST fits in
    let advances = map (λ v. v.advance) c.variants in
    let fulls = map (λ p. p.full) c.parts in
    let Short = λ (x : ℕ). x ≤ n in
    let entries = All-append Short advances fulls (All-map Short (λ v. v.advance) c.variants b.advances) (All-map Short (λ p. p.full) c.parts b.fulls) in
    all_fit_none k 0 (lengths c)
    (All-weaker Short (λ x. k * x ≤ LARGEST) (λ x le. omega (arith, mul-le-mul_left k le)) (lengths c) (All-cons Short c.least (advances ++ fulls) b.least entries))
