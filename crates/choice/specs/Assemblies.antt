-- Assemblies of parts: which are legal, and how long they are.
use Rattle.std.specs.Prelude.{◌≡◌, ℕ, ◌+◌, ◌-◌, ◌≤◌, min, if◌then◌else◌, List, [], ◌∷◌, ◌++◌, length, replicate, filter}
use Rattle.std.specs.List.{AllZip}
use Rattle.face.specs.declared.parts.Part.{Part}

-- the most pieces of an assembly
abbrev pub MOST_PIECES : ℕ
MOST_PIECES = 4096

-- the sum of a measure over a list; it goes by the first entry, as inductions do, where the library's sum_by folds
abbrev pub total : {A : Type 0} → (A → ℕ) → List A → ℕ
total f [] = 0
total f (x ∷ xs) = f x + total f xs

abbrev pub sum : List ℕ → ℕ
sum xs = total (λ x. x) xs

-- at repeat count r each extender stands r times in a row, every other part once
abbrev pub copies : ℕ → Part → ℕ
copies r p = if p.extender then r else 1

-- the pieces at repeat count r, from the bottom or the left
abbrev pub pieces : ℕ → List Part → List Part
pieces r [] = []
pieces r (p ∷ ps) = replicate (copies r p) p ++ pieces r ps

abbrev pub extenders : List Part → List Part
extenders parts = filter (λ p. p.extender) parts

-- the most of a joint: the smaller of the former's end and the latter's start connector
abbrev pub most : Part → Part → ℕ
most a b = min a.end b.start

-- the mosts of the joints of pieces that stand behind a piece
abbrev pub mosts_from : Part → List Part → List ℕ
mosts_from a [] = []
mosts_from a (b ∷ ps) = most a b ∷ mosts_from b ps

-- the mosts of the joints of pieces, between neighbours
abbrev pub mosts : List Part → List ℕ
mosts [] = []
mosts (a ∷ ps) = mosts_from a ps

-- an overlap for each joint, from the least overlap to the joint's most
abbrev pub Within : ℕ → List ℕ → List ℕ → Type 0
Within least overlaps ms = AllZip (λ o m. (least ≤ o) × (o ≤ m)) overlaps ms

-- an assembly of parts, a repeat count and the overlaps of its joints, is legal
pub record Legal (least : ℕ) (parts : List Part) (r : ℕ) (overlaps : List ℕ) : Type 0 where
  -- without an extender only repeat count 0 exists
  pub exists : length (extenders parts) ≡ 0 → r ≡ 0
  pub some : 1 ≤ length (pieces r parts)
  pub few : length (pieces r parts) ≤ MOST_PIECES
  pub within : Within least overlaps (mosts (pieces r parts))

-- the size of an assembly: full advances minus overlaps
abbrev pub size : List Part → List ℕ → ℕ
size ps overlaps = total (λ p. p.full) ps - sum overlaps
