-- Everything grows by the same for each further repeat.
use Rattle.std.proofs.Common.{◌≡◌, ℕ, zero, suc, ◌+◌, ◌*◌, Bool, true, false, cond, ◌&&◌, ◌||◌, eqb, leb, List, [], ◌∷◌, ◌++◌, map, length, replicate, sym, refl, ap, ◌∙◌, arith}
use Rattle.std.proofs.lemmas.Bool.{ne_eqb}
use Rattle.std.proofs.Math.Bool.{and-true, and_assoc, and_self_left}
use Rattle.face.specs.declared.parts.Part.{Part}
use Rattle.choice.specs.Assemblies.{total, sum, pieces, extenders, most, mosts_from, mosts}
use Rattle.choice.specs.Spans.{roomy}
use Rattle.choice.specs.Sums.{sums_of, gains_of, grown}
use Rattle.choice.proofs.Repeating.{nothing, after_nothing}

total_run : {A : Type 0} (f : A → ℕ) (k : ℕ) (x : A) (xs : List A) → total f (replicate k x ++ xs) ≡ k * f x + total f xs
total_run f zero x xs = omega arith
total_run f (suc k) x xs = omega (arith, total_run f k x xs)

-- of any measure: the parts have it once, and each further repeat adds that of the extenders
total_grows : (f : Part → ℕ) (parts : List Part) (k : ℕ) → total f (pieces (suc k) parts) ≡ total f parts + k * total f (extenders parts)
total_grows f [] k = omega arith
total_grows f (p ∷ ps) k =
    let ih = total_grows f ps k in
    elim p.extender
    as (λ b. total f (replicate (cond b (suc k) 1) p ++ pieces (suc k) ps)
    ≡ f p + total f ps + k * total f (cond b (p ∷ extenders ps) (extenders ps)))
    [ true ↦ omega (arith, total_run f k p (pieces (suc k) ps)) | false ↦ omega arith ]

length_total : {A : Type 0} (xs : List A) → length xs ≡ total (λ x. 1) xs
length_total [] = refl
length_total (x ∷ xs) = omega (arith, length_total xs)

-- a run of one piece
mosts_run : (k : ℕ) (a : Part) (ps : List Part) → sum (mosts_from a (replicate k a ++ ps)) ≡ k * most a a + sum (mosts_from a ps)
mosts_run zero a ps = omega arith
mosts_run (suc k) a ps = omega (arith, mosts_run k a ps)

mosts_from_grow : (a : Part) (parts : List Part) (k : ℕ)
    → sum (mosts_from a (pieces (suc k) parts)) ≡ sum (mosts_from a parts) + k * total (λ e. most e e) (extenders parts)
mosts_from_grow a [] k = omega arith
mosts_from_grow a (p ∷ ps) k =
    let ih = mosts_from_grow p ps k in
    elim p.extender
    as (λ b. sum (mosts_from a (replicate (cond b (suc k) 1) p ++ pieces (suc k) ps))
    ≡ most a p + sum (mosts_from p ps) + k * total (λ e. most e e) (cond b (p ∷ extenders ps) (extenders ps)))
    [ true ↦ omega (arith, mosts_run k p (pieces (suc k) ps)) | false ↦ omega arith ]

mosts_grow : (parts : List Part) (k : ℕ) → sum (mosts (pieces (suc k) parts)) ≡ sum (mosts parts) + k * total (λ e. most e e) (extenders parts)
mosts_grow parts k =
    omega (arith, mosts_from_grow nothing parts k, after_nothing parts, after_nothing (pieces (suc k) parts))

-- at one repeat the pieces are the parts
once : (parts : List Part) → pieces 1 parts ≡ parts
once [] = refl
once (p ∷ ps) =
    elim p.extender as (λ b. replicate (cond b 1 1) p ++ pieces 1 ps ≡ p ∷ ps)
    [ true ↦ ap (λ qs. p ∷ qs) (once ps) | false ↦ ap (λ qs. p ∷ qs) (once ps) ]

and_shuffle : (x y u v : Bool) → (x && (y && (u && v))) ≡ ((x && u) && (y && v))
and_shuffle false y u v = refl
and_shuffle true true u v = refl
and_shuffle true false true v = refl
and_shuffle true false false v = refl

-- every joint of an extender with itself leaves room
abbrev selves : ℕ → List Part → Bool
selves least es = roomy least (map (λ e. most e e) es)

-- a run of two pieces or more has a joint of the piece with itself
roomy_run : (least k : ℕ) (a : Part) (ps : List Part)
    → roomy least (mosts_from a (replicate (suc k) a ++ ps)) ≡ (leb least (most a a) && roomy least (mosts_from a ps))
roomy_run least zero a ps = refl
roomy_run least (suc k) a ps =
    ap (λ b. leb least (most a a) && b) (roomy_run least k a ps) ∙ and_self_left (leb least (most a a)) (roomy least (mosts_from a ps))

roomy_from : (least k : ℕ) (a : Part) (parts : List Part)
    → roomy least (mosts_from a (pieces (suc (suc k)) parts)) ≡ (roomy least (mosts_from a parts) && selves least (extenders parts))
roomy_from least k a [] = refl
roomy_from least k a (p ∷ ps) =
    let ih = roomy_from least k p ps in
    let x : Bool = leb least (most a p) in
    let u : Bool = roomy least (mosts_from p ps) in
    let v : Bool = selves least (extenders ps) in
    elim p.extender
    as (λ b. roomy least (mosts_from a (replicate (cond b (suc (suc k)) 1) p ++ pieces (suc (suc k)) ps))
    ≡ ((x && u) && selves least (cond b (p ∷ extenders ps) (extenders ps)))) [
      | true ↦ ap (λ b. x && b) (roomy_run least k p (pieces (suc (suc k)) ps) ∙ ap (λ b. leb least (most p p) && b) ih)
          ∙ and_shuffle x (leb least (most p p)) u v
      | false ↦ ap (λ b. x && b) ih ∙ sym (and_assoc x u v)
    ]

-- from two repeats on, the joints are those of the parts and those of each extender with itself
roomy_two : (least k : ℕ) (parts : List Part)
    → roomy least (mosts (pieces (suc (suc k)) parts)) ≡ (roomy least (mosts parts) && selves least (extenders parts))
roomy_two least k [] = refl
roomy_two least k (p ∷ ps) =
    let ih = roomy_from least k p ps in
    let u : Bool = roomy least (mosts_from p ps) in
    let v : Bool = selves least (extenders ps) in
    elim p.extender
    as (λ b. roomy least (mosts (replicate (cond b (suc (suc k)) 1) p ++ pieces (suc (suc k)) ps))
    ≡ (u && selves least (cond b (p ∷ extenders ps) (extenders ps)))) [
      | true ↦ roomy_run least k p (pieces (suc (suc k)) ps) ∙ ap (λ b. leb least (most p p) && b) ih
          ∙ and_shuffle true (leb least (most p p)) u v
      | false ↦ ih
    ]

roomy_grows : (least k : ℕ) (parts : List Part)
    → roomy least (mosts (pieces (suc k) parts)) ≡ (roomy least (mosts parts) && (eqb k 0 || selves least (extenders parts)))
roomy_grows least zero parts = ap (λ ps. roomy least (mosts ps)) (once parts) ∙ sym (and-true (roomy least (mosts parts)))
roomy_grows least (suc k) parts =
    roomy_two least k parts ∙ ap (λ b. roomy least (mosts parts) && (b || selves least (extenders parts))) (sym (ne_eqb (suc k) 0 (λ e. omega arith)))

-- the sums at one repeat and more are those at one and as many times the gains
pub sums_grow : (least : ℕ) (parts : List Part) (k : ℕ)
    → grown (sums_of least parts) (gains_of least (extenders parts)) k ≡ sums_of least (pieces (suc k) parts)
sums_grow least parts k =
    λ i. record {
      pieces = sym (pieces_grow) i;
      full = sym (total_grows (λ p. p.full) parts k) i;
      mosts = sym (mosts_grow parts k) i;
      roomy = sym (roomy_grows least k parts) i;
    }
  where
    pieces_grow : length (pieces (suc k) parts) ≡ length parts + k * length (extenders parts)
    pieces_grow = simp length_total (total_grows (λ p. 1) parts k)
