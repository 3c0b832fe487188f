-- No construction that a layer offers is too large. This is a proof: nothing in it has to be believed.
use Rattle.std.specs.Prelude.{◌≡◌, ℕ, ◌+◌, ◌*◌, ◌≤◌, min, max, All, Bool, true, false, if◌then◌else◌, not, List, [], ◌∷◌, ◌++◌, map, length, Some, None, Option, nat_le, refl}
use Rattle.std.proofs.Common.{mul-le-mul_left, arith, leb-true, subst, get_or, get_or-append-add, length-append}
use Rattle.std.proofs.lemmas.List.{length-map, get_or_append_left}
use Rattle.std.proofs.Math.ListN.{get_or-map}
use Rattle.std.proofs.lemmas.List.Elements.{All-nil, All-cons, All-head, All-tail, All-weaker, All-map}
use Rattle.face.specs.declared.keys.Key.{Key}
use Rattle.face.specs.Bounds.{LARGEST, Within, Bounded}
use Rattle.face.specs.Meaning.{Meaning, unknown, faulty, construction, Construction}
use Rattle.layers.specs.Layers.{raised, fallen_back, capped}
use Rattle.layers.specs.Scaling.{scaled_variant, scaled_part, scaled_construction, lengths, first_too_long, judged, scaled}

-- of two lists, one after the other
all_parted : {X : Type 0} (P : X → Type 0) (xs ys : List X) → All P (xs ++ ys) → All P xs × All P ys
all_parted P xs ys all = (
  λ i d less. subst P (get_or_append_left xs ys d i less) (all i d (omega (arith, length-append xs ys))),
  λ i d less. subst P (get_or-append-add xs ys i d) (all (length xs + i) d (omega (arith, length-append xs ys))),
)

-- of mapped entries, and so of those they come from
all_unmapped : {X Y : Type 0} (P : Y → Type 0) (f : X → Y) (xs : List X) → All P (map f xs) → All (λ x. P (f x)) xs
all_unmapped P f xs all i d less = subst P (get_or-map f xs i d) (all i (f d) (omega (arith, length-map xs f)))

pub bounded_capped : (most n : ℕ) (m : Meaning) → Bounded n m → Bounded n (capped most m)
bounded_capped most n unknown b = tt
bounded_capped most n (faulty f) b = tt
bounded_capped most n (construction c) b =
    record { limit = omega (arith, b.limit); least = b.least; advances = b.advances; fulls = b.fulls; variants = b.variants; parts = b.parts }

-- a meaning that is passed up, under a longest that is no shorter
bounded_raised : (n k : ℕ) → n ≤ k → (m : Meaning) → Bounded n m → Bounded k (raised m)
bounded_raised n k le unknown b = tt
bounded_raised n k le (faulty f) b = tt
bounded_raised n k le (construction c) b =
    record {
      limit = b.limit;
      least = omega (arith, b.least);
      advances = All-weaker (λ v. v.advance ≤ n) (λ v. v.advance ≤ k) (λ v short. omega arith) c.variants b.advances;
      fulls = All-weaker (λ p. p.full ≤ n) (λ p. p.full ≤ k) (λ p short. omega arith) c.parts b.fulls;
      variants = b.variants;
      parts = b.parts;
    }

pub bounded_fallen_back : (n k : ℕ) (first second : Meaning) → Bounded n first → Bounded k second → Bounded (max n k) (fallen_back first second)
bounded_fallen_back n k unknown second a b = bounded_raised k (max n k) (omega arith) second b
bounded_fallen_back n k (faulty f) second a b = tt
bounded_fallen_back n k (construction c) second a b = bounded_raised n (max n k) (omega arith) (construction c) a

pub longer_largest : (n k : ℕ) → n ≤ LARGEST → k ≤ LARGEST → max n k ≤ LARGEST
longer_largest n k a b = omega arith

-- a search that finds nothing: the head fits, and nothing is found after it
none_head : (b : Bool) (place : ℕ) (rest : Option ℕ) → (if not b then Some place else rest) ≡ None → (b ≡ true) × (rest ≡ None)
none_head true place rest e = (refl, e)
none_head false place rest e = cc

pub all_fit : (k place : ℕ) (xs : List ℕ) → first_too_long k place xs ≡ None → All (λ x. k * x ≤ LARGEST) xs
all_fit k place [] e = All-nil _
all_fit k place (x ∷ xs) e =
    let h = none_head (nat_le (k * x) LARGEST) place (first_too_long k (place + 1) xs) e in
    All-cons (λ x. k * x ≤ LARGEST) x xs (leb-true (k * x) LARGEST h.0) (all_fit k (place + 1) xs h.1)

-- lengths that fit, multiplied
all_times : {X : Type 0} (f : X → ℕ) (by : X → X) (k n : ℕ) → ((x : X) → f (by x) ≡ k * f x) → (xs : List X) → All (λ x. f x ≤ n) xs → All (λ x. k * f x ≤ LARGEST) xs → All (λ x. f x ≤ min (k * n) LARGEST) (map by xs)
all_times f by k n is xs short fit =
    All-map (λ x. f x ≤ min (k * n) LARGEST) by xs (λ i d less. let at = get_or xs i d in omega (arith, is at, mul-le-mul_left k (short i d less), fit i d less))

-- the lengths of a construction that fit, by their kinds
pub record Fitting (k : ℕ) (c : Construction) : Type 0 where
  pub least : k * c.least ≤ LARGEST
  pub advances : All (λ v. k * v.advance ≤ LARGEST) c.variants
  pub fulls : All (λ p. k * p.full ≤ LARGEST) c.parts

pub fitting : (k : ℕ) (c : Construction) → first_too_long k 0 (lengths c) ≡ None → Fitting k c
fitting k c e =
    let Fits = λ (x : ℕ). k * x ≤ LARGEST in
    let advances = map (λ v. v.advance) c.variants in
    let fulls = map (λ p. p.full) c.parts in
    let all = all_fit k 0 (lengths c) e in
    let lists = all_parted Fits advances fulls (All-tail Fits c.least (advances ++ fulls) all) in
    record {
      least = All-head Fits c.least (advances ++ fulls) all;
      advances = all_unmapped Fits (λ v. v.advance) c.variants lists.0;
      fulls = all_unmapped Fits (λ p. p.full) c.parts lists.1;
    }

module _ (k n : ℕ) (key : Key) where
  within_scaled : (c : Construction) → Within n c → Fitting k c → Within (min (k * n) LARGEST) (scaled_construction k c)
  within_scaled c b fit =
      record {
        limit = omega arith;
        least = omega (arith, mul-le-mul_left k b.least, fit.least);
        advances = all_times (λ v. v.advance) (scaled_variant k) k n (λ v. refl) c.variants b.advances fit.advances;
        fulls = all_times (λ p. p.full) (scaled_part k) k n (λ p. refl) c.parts b.fulls fit.fulls;
        variants = omega (arith, b.variants, length-map c.variants (scaled_variant k));
        parts = omega (arith, b.parts, length-map c.parts (scaled_part k));
      }

  bounded_judged : (c : Construction) → Within n c → (place : Option ℕ) → first_too_long k 0 (lengths c) ≡ place → Bounded (min (k * n) LARGEST) (judged key place (scaled_construction k c))
  bounded_judged c b None e = within_scaled c b (fitting k c e)
  bounded_judged c b (Some place) e = tt

  pub bounded_scaled : (m : Meaning) → Bounded n m → Bounded (min (k * n) LARGEST) (scaled k key m)
  bounded_scaled unknown b = tt
  bounded_scaled (faulty f) b = tt
  bounded_scaled (construction c) b = bounded_judged c b (first_too_long k 0 (lengths c)) refl

pub times_largest : (k n : ℕ) → min (k * n) LARGEST ≤ LARGEST
times_largest k n = omega arith
