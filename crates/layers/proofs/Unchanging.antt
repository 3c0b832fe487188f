-- Scaling by one changes nothing.
use Rattle.std.proofs.Common.{◌≡◌, ℕ, ◌*◌, ◌≤◌, min, List, [], ◌∷◌, map, refl, ap, ◌∙◌, arith}
use Rattle.std.proofs.lemmas.Bool.{le-leb}
use Rattle.face.specs.declared.keys.Key.{Key}
use Rattle.face.specs.declared.parts.Part.{Part}
use Rattle.face.specs.declared.variants.Variant.{Variant}
use Rattle.face.specs.Bounds.{LARGEST, Bounded}
use Rattle.face.specs.Meaning.{Meaning, unknown, faulty, construction, Construction}
use Rattle.face.proofs.SameParts.{same_part}
use Rattle.layers.specs.Layers.{raised}
use Rattle.layers.specs.Scaling.{scaled_variant, scaled_part, scaled_construction, judged, scaled}
use Rattle.layers.proofs.Places.{longest_fits}

map_same : {X : Type 0} (f : X → X) → ((x : X) → f x ≡ x) → (xs : List X) → map f xs ≡ xs
map_same f same [] = refl
map_same f same (x ∷ xs) = λ i. same x i ∷ map_same f same xs i

once : (n : ℕ) → 1 * n ≡ n
once n = omega arith

variant_once : (v : Variant) → scaled_variant 1 v ≡ v
variant_once v = λ i. record { face = v.face; glyph = v.glyph; advance = once v.advance i }

part_once : (p : Part) → scaled_part 1 p ≡ p
part_once p = same_part (scaled_part 1 p) p refl refl (once p.start) (once p.end) (once p.full) refl

construction_once : (c : Construction) → c.limit ≤ LARGEST → scaled_construction 1 c ≡ c
construction_once c largest =
    let limit : min (1 * c.limit) LARGEST ≡ c.limit = omega arith in
    λ i. record {
      limit = limit i;
      least = once c.least i;
      variants = map_same (scaled_variant 1) variant_once c.variants i;
      parts = map_same (scaled_part 1) part_once c.parts i;
    }

pub scaled_once : (n : ℕ) → n ≤ LARGEST → (key : Key) (m : Meaning) → Bounded n m → scaled 1 key m ≡ raised m
scaled_once n largest key unknown b = refl
scaled_once n largest key (faulty f) b = refl
scaled_once n largest key (construction c) b =
    ap (λ o. judged key o (scaled_construction 1 c)) (longest_fits 1 n (construction c) b (le-leb (1 * n) LARGEST (omega arith)))
    ∙ ap construction (construction_once c b.limit)
