-- What holds of layers over every face.
use Rattle.std.specs.Prelude.{◌≡◌, ℕ, ◌+◌, ◌*◌, ◌<◌, ◌≤◌, length, Some}
use Rattle.std.specs.List.{slice_get}
use Rattle.face.specs.declared.faults.Fault.{Fault}
use Rattle.face.specs.declared.keys.Key.{Key}
use Rattle.face.specs.declared.parts.Part.{Part}
use Rattle.face.specs.declared.variants.Variant.{Variant}
use Rattle.face.specs.Bounds.{LARGEST}
use Rattle.face.specs.Faults.{passed_up}
use Rattle.face.specs.Meaning.{Meaning, unknown, faulty, construction, Construction}
use Rattle.layers.specs.Layers.{raised, fallen_back, capped}
use Rattle.layers.specs.Scaling.{scaled_construction, lengths, too_long_at, scaled}

-- what a layer makes of a face is what the face means, but for the passed counts of faults
abbrev pub Unchanged : (Key → Meaning) → (Key → Meaning → Meaning) → Type 0
Unchanged meaning layer = (key : Key) → layer key (meaning key) ≡ raised (meaning key)

-- a face that knows no key
abbrev pub KnowsNoKey : (Key → Meaning) → Type 0
KnowsNoKey meaning = (key : Key) → meaning key ≡ unknown

-- no layer hides a fault or changes it but for its passed count
pub record FaultsGoUpWhole : Type 0 where
  pub by_scale : (k : ℕ) (key : Key) (f : Fault) → scaled k key (faulty f) ≡ faulty (passed_up f)
  pub by_cap : (most : ℕ) (f : Fault) → capped most (faulty f) ≡ faulty (passed_up f)
  pub from_first : (f : Fault) (second : Meaning) → fallen_back (faulty f) second ≡ faulty (passed_up f)
  pub from_second : (f : Fault) → fallen_back unknown (faulty f) ≡ faulty (passed_up f)

-- each length has one place: 0 the least overlap, from 1 on the variants, then the parts
pub record EachLengthHasAPlace (c : Construction) : Type 0 where
  pub least : slice_get (lengths c) 0 ≡ Some c.least
  pub variant : (i : ℕ) (v : Variant) → slice_get c.variants i ≡ Some v → slice_get (lengths c) (1 + i) ≡ Some v.advance
  pub part : (i : ℕ) (p : Part) → slice_get c.parts i ≡ Some p → slice_get (lengths c) (1 + length c.variants + i) ≡ Some p.full

-- every length fits when it is scaled
abbrev pub AllFit : ℕ → Construction → Type 0
AllFit k c = (place x : ℕ) → slice_get (lengths c) place ≡ Some x → k * x ≤ LARGEST

-- each length that has a place before this one fits
abbrev pub FitBefore : ℕ → Construction → ℕ → Type 0
FitBefore k c place = (q x : ℕ) → q < place → slice_get (lengths c) q ≡ Some x → k * x ≤ LARGEST

-- a scaled key has a construction where every length fits
abbrev pub WhatFitsIsScaled : Type 0
WhatFitsIsScaled =
    (k : ℕ) (key : Key) (c : Construction) → AllFit k c → scaled k key (construction c) ≡ construction (scaled_construction k c)

-- it has a fault where one does not, at the place of the first that does not
abbrev pub TheFirstLengthTooLongIsTheFault : Type 0
TheFirstLengthTooLongIsTheFault =
    (k : ℕ) (key : Key) (c : Construction) (place x : ℕ) → slice_get (lengths c) place ≡ Some x → LARGEST < k * x → FitBefore k c place
    → scaled k key (construction c) ≡ faulty (too_long_at key place)
