-- A fault as it is found, and how it changes on its way up.
use Rattle.std.specs.Prelude.{◌≡◌, ℕ, ◌+◌, ◌<◌, ◌≤◌, min}
use Rattle.face.specs.declared.faults.Cause.{Cause}
use Rattle.face.specs.declared.faults.Fault.{Fault}
use Rattle.face.specs.declared.faults.Layer.{Layer}
use Rattle.face.specs.declared.keys.Key.{Key}

-- the fault of a key that a layer finds at a place: no layer has passed it up
abbrev pub found : Layer → Cause → Key → ℕ → Fault
found layer cause key place = record { cause = cause; layer = layer; place = place; glyph = key.glyph; passed = 0 }

-- the same fault, one layer further up: only the number of layers that passed it up grows, and stops at 255
pub record Whole (f g : Fault) : Type 0 where
  pub same_cause : g.cause ≡ f.cause
  pub same_layer : g.layer ≡ f.layer
  pub same_place : g.place ≡ f.place
  pub same_glyph : g.glyph ≡ f.glyph
  pub counted : f.passed < 255 → g.passed ≡ f.passed + 1
  pub stopped : 255 ≤ f.passed → g.passed ≡ 255

-- the one fault that it is then
abbrev pub passed_up : Fault → Fault
passed_up f = record {
  cause = f.cause;
  layer = f.layer;
  place = f.place;
  glyph = f.glyph;
  passed = min (f.passed + 1) 255;
}
