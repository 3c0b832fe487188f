-- The lengths are computed; a part has besides them the proofs that its connectors are short, which are equal by `same_part`.
use Rattle.std.proofs.Common.{◌≡◌, ℕ, ◌*◌, Bool, true, false, [], ◌∷◌, refl, arith}
use Rattle.face.proofs.SameParts.{same_part}
use Rattle.face.specs.Clamping.{clamped_part}
use Rattle.face.specs.Meaning.{construction}
use Rattle.layers.specs.Scaling.{scaled_part}
use Rattle.settings.specs.Layered.{doubled_offer}
use Rattle.settings.proofs.layered.scaled_by_2_glyph_40_upright_is_doubled.Goals as goal

doubled : (glyph start end full : ℕ) (extender : Bool)
    → scaled_part 2 (clamped_part 0 glyph start end full extender) ≡ clamped_part 0 glyph (2 * start) (2 * end) (2 * full) extender
doubled glyph start end full extender =
    same_part (scaled_part 2 (clamped_part 0 glyph start end full extender)) (clamped_part 0 glyph (2 * start) (2 * end) (2 * full) extender)
    refl refl (omega arith) (omega arith) refl refl

pub returns : goal.returns
returns c =
    λ i. construction (record {
      limit = doubled_offer.limit;
      least = doubled_offer.least;
      variants = doubled_offer.variants;
      parts = doubled 50 0 40 100 false i ∷ doubled 51 40 40 60 true i ∷ doubled 52 40 0 100 false i ∷ [];
    })
