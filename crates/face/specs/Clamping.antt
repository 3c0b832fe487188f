-- Parts of any lengths: a connector above the full advance counts as the full advance.
use Rattle.std.specs.Prelude.{◌≡◌, ℕ, min, Bool}
use Rattle.std.proofs.Math.Nat.{min-le_right}
use Rattle.face.specs.declared.parts.Part.{Part}

-- how a part comes from the lengths that were given
pub record Clamped (face glyph start end full : ℕ) (extender : Bool) (p : Part) : Type 0 where
  pub face_is : p.face ≡ face
  pub glyph_is : p.glyph ≡ glyph
  pub start_is : p.start ≡ min start full
  pub end_is : p.end ≡ min end full
  pub full_is : p.full ≡ full
  pub extender_is : p.extender ≡ extender

-- the one part that comes from them
abbrev pub clamped_part : (face glyph start end full : ℕ) → Bool → Part
clamped_part face glyph start end full extender = record {
  face = face;
  glyph = glyph;
  start = min start full;
  end = min end full;
  full = full;
  extender = extender;
  starts = min-le_right start full;
  ends = min-le_right end full;
}
