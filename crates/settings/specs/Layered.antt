-- What the sample offers for glyph 40 upright, under a layer.
use Rattle.std.specs.Prelude.{ℕ, true, false, [], ◌∷◌}
use Rattle.face.specs.Bounds.{LARGEST}
use Rattle.face.specs.Clamping.{clamped_part}
use Rattle.face.specs.Meaning.{Construction}
use Rattle.settings.specs.Sample.{variant, offer}

-- the same with another limit
abbrev pub offer_up_to : ℕ → Construction
offer_up_to limit = record { limit = limit; least = offer.least; variants = offer.variants; parts = offer.parts }

-- twice as large, but for the limit, which is the largest already
abbrev pub doubled_offer : Construction
doubled_offer = record {
  limit = LARGEST;
  least = 40;
  variants = variant 40 200 ∷ variant 41 400 ∷ [];
  parts = clamped_part 0 50 0 80 200 false ∷ clamped_part 0 51 80 80 120 true ∷ clamped_part 0 52 80 0 200 false ∷ [];
}
