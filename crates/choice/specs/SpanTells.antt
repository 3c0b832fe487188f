-- What a span tells of the legal assemblies at a repeat count.
use Rattle.std.specs.Prelude.{◌≡◌, ℕ, ◌≤◌, List, Some, None, Option}
use Rattle.face.specs.declared.parts.Part.{Part}
use Rattle.choice.specs.Assemblies.{Legal, pieces, size}
use Rattle.choice.specs.Spreading.{overlaps}

-- the sizes of the legal assemblies: every one lies in the span, and every number of the span is that of the spreading
pub record Sizes (least : ℕ) (parts : List Part) (r : ℕ) (span : ℕ × ℕ) : Type 0 where
  pub inside : (os : List ℕ) → Legal least parts r os → (span.0 ≤ size (pieces r parts) os) × (size (pieces r parts) os ≤ span.1)
  pub reached : (z : ℕ) → span.0 ≤ z → z ≤ span.1
      → Legal least parts r (overlaps least parts r z) × (size (pieces r parts) (overlaps least parts r z) ≡ z)

-- no assembly is legal
abbrev pub NoneLegal : ℕ → List Part → ℕ → Type 0
NoneLegal least parts r = (os : List ℕ) → Legal least parts r os → ⊥

-- what a span, or none, tells of the assemblies of parts
abbrev pub SpanTells : ℕ → List Part → ℕ → Option (ℕ × ℕ) → Type 0
SpanTells least parts r None = NoneLegal least parts r
SpanTells least parts r (Some span) = Sizes least parts r span
