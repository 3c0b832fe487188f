-- The span at any repeat count, from the totals.
use Rattle.std.proofs.Common.{◌≡◌, ℕ, zero, suc, ◌-◌, ◌*◌, ◌<◌, ◌≤◌, min, true, false, leb, List, [], ◌∷◌, map, length, sym, refl, ap, ◌∙◌, arith}
use Rattle.std.proofs.lemmas.Bool.{le-leb, false_from_ne_true}
use Rattle.face.specs.declared.parts.Part.{Part}
use Rattle.face.specs.Meaning.{Construction}
use Rattle.choice.specs.declared.sums.Sums.{Sums}
use Rattle.choice.specs.declared.totals.Totals.{Totals}
use Rattle.choice.specs.Assemblies.{MOST_PIECES, sum, pieces, extenders, mosts_from, mosts}
use Rattle.choice.specs.Spans.{possible, span}
use Rattle.choice.specs.Sums.{sums_of, grown, span_of_sums}
use Rattle.choice.specs.Totals.{Describes, SumsAt, NoneFrom}
use Rattle.choice.proofs.Growing.{sums_grow}
use Rattle.choice.proofs.Sizing.{possible_parts}
use Rattle.choice.proofs.Taking.{pieces_many}

-- with every joint at the least overlap: one joint less than pieces
leasts_from : (least : ℕ) (a : Part) (ps : List Part) → least * length ps ≡ sum (map (λ m. least) (mosts_from a ps))
leasts_from least a [] = omega arith
leasts_from least a (p ∷ ps) = omega (arith, leasts_from least p ps)

leasts : (least : ℕ) (ps : List Part) → least * (length ps - 1) ≡ sum (map (λ m. least) (mosts ps))
leasts least [] = omega arith
leasts least (p ∷ ps) = let e : suc (length ps) - 1 ≡ length ps = omega arith in rw e (leasts_from least p ps)

-- the span is that of the sums, where the repeat count exists
span_from_sums : (least : ℕ) (parts : List Part) (r : ℕ) → min r 1 ≤ length (extenders parts)
    → span_of_sums least (sums_of least (pieces r parts)) ≡ span least parts r
span_from_sums least parts r exists =
    let there : leb (min r 1) (length (extenders parts)) ≡ true = le-leb _ _ exists in
    rw (leasts least (pieces r parts), there)

-- without an extender no count from 1 on is legal
pub none_without : (least : ℕ) (parts : List Part) (k : ℕ) → length (extenders parts) ≡ 0 → 1 ≤ k → possible least parts k ≡ false
none_without least parts k none more = false_from_ne_true (possible least parts k) (λ can. omega (arith, (possible_parts least parts k can).exists))

-- nor with too many pieces
pub too_many : (least : ℕ) (parts : List Part) (k : ℕ) → MOST_PIECES < length (pieces k parts) → possible least parts k ≡ false
too_many least parts k many = false_from_ne_true (possible least parts k) (λ can. omega (arith, (possible_parts least parts k can).few))

-- with more repeats than an assembly has pieces, none is legal
none_above : (least : ℕ) (parts : List Part) (k : ℕ) → MOST_PIECES < k → possible least parts k ≡ false
none_above least parts k above = go (length (extenders parts)) refl (pieces_many parts k)
  where
    go : (n : ℕ) → length (extenders parts) ≡ n → k * n ≤ length (pieces k parts) → possible least parts k ≡ false
    go zero is many = none_without least parts k is (omega arith)
    go (suc n) is many = too_many least parts k (omega arith)

module _ (t : Totals) (r : ℕ) where
  pub above_none : MOST_PIECES < r → NoneFrom t r
  above_none above = record { none = λ c d k less. none_above c.least c.parts k (omega arith) }

  pub no_extender_none : 1 ≤ r → t.more.pieces ≡ 0 → NoneFrom t r
  no_extender_none more none = record {
    none = λ c d k less. none_without c.least c.parts k (ap (λ s. s.pieces) (sym d.more_is) ∙ none) (omega arith);
  }

  -- the span at a repeat count is that of its sums
  pub span_at : (s : Sums) → SumsAt t r s → (c : Construction) → Describes t c → span_of_sums t.least s ≡ span c.least c.parts r
  span_at s at c d =
      let are = at.are c d in
      (λ i. span_of_sums (d.least_is i) (are.1 i)) ∙ span_from_sums c.least c.parts r are.0

  -- the sums at one repeat and more
  pub more_at : (s : Sums) → 1 ≤ r → r ≤ MOST_PIECES → (t.more.pieces ≡ 0 → ⊥) → s ≡ grown t.once t.more (r - 1) → SumsAt t r s
  more_at s low high some is = record {
    low = high;
    are = λ c d.
        let ext : length (extenders c.parts) ≡ t.more.pieces = ap (λ x. x.pieces) (sym d.more_is) in
        let next : suc (r - 1) ≡ r = omega arith in (
          exists t.more.pieces ext some,
          is ∙ (λ i. grown (d.once_is i) (d.more_is i) (r - 1)) ∙ sums_grow c.least c.parts (r - 1) ∙ ap (λ n. sums_of c.least (pieces n c.parts)) next,
        );
  }
    where
      exists : {n : ℕ} (m : ℕ) → n ≡ m → (m ≡ 0 → ⊥) → min r 1 ≤ n
      exists zero e no_zero = absurd (no_zero refl)
      exists (suc m) e no_zero = omega arith
