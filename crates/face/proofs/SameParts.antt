-- Two parts with the same fields are the same part: that connectors are short has one proof only.
use Rattle.std.proofs.Common.{◌≡◌, ℕ, ◌≤◌, Bool}
use native.Mathlib.Bridge.{le_prop}
use mathlib.Core.HLevel.{is_prop→PathP}
use Rattle.face.specs.Clamping.{Clamped, clamped_part}
use Rattle.face.specs.declared.parts.Part.{Part}

pub same_part : (p q : Part) → p.face ≡ q.face → p.glyph ≡ q.glyph → p.start ≡ q.start → p.end ≡ q.end → p.full ≡ q.full → p.extender ≡ q.extender → p ≡ q
same_part p q face glyph start end full extender =
    λ i. record {
      face = face i;
      glyph = glyph i;
      start = start i;
      end = end i;
      full = full i;
      extender = extender i;
      starts = is_prop→PathP (λ k. start k ≤ full k) (λ k. le_prop) p.starts q.starts i;
      ends = is_prop→PathP (λ k. end k ≤ full k) (λ k. le_prop) p.ends q.ends i;
    }

pub clamped_is : (face glyph start end full : ℕ) (extender : Bool) (p : Part) → Clamped face glyph start end full extender p → p ≡ clamped_part face glyph start end full extender
clamped_is face glyph start end full extender p h =
    same_part p (clamped_part face glyph start end full extender) h.face_is h.glyph_is h.start_is h.end_is h.full_is h.extender_is
