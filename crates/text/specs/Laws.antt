-- What cuts, lines and numbers are, in their own words.
use Rattle.std.specs.Prelude.{◌≡◌, ℕ, ◌≤◌, if◌then◌else◌, All, List, [], ◌∷◌, ◌++◌, Some, None, decimal as written, Option, ◌==◌, ◌≢◌}
use Rattle.text.specs.Cuts.{before, after}
use Rattle.text.specs.Lines.{lines}
use Rattle.text.specs.Numbers.{numeral}

-- no byte is this one
abbrev pub Without : ℕ → List ℕ → Type 0
Without b bs = All (λ x. x ≢ b) bs

-- the two sides of a cut, the separator between them
abbrev pub rejoined : ℕ → List ℕ → Option (List ℕ) → List ℕ
rejoined separator front None = front
rejoined separator front (Some back) = front ++ separator ∷ back

-- a cut loses nothing, and is made at the first separator
abbrev pub ACutJoinedAgainIsTheBytes : Type 0
ACutJoinedAgainIsTheBytes =
    (separator : ℕ) (bytes : List ℕ)
    → (rejoined separator (before separator bytes) (after separator bytes) ≡ bytes) × Without separator (before separator bytes)

-- two sides that were joined come back
abbrev pub WhatIsJoinedIsCutThere : Type 0
WhatIsJoinedIsCutThere =
    (separator : ℕ) (front back : List ℕ) → Without separator front
    → (before separator (front ++ separator ∷ back) ≡ front) × (after separator (front ++ separator ∷ back) ≡ Some back)

-- lines one after another, each with its line feed
abbrev pub joined : List (List ℕ) → List ℕ
joined [] = []
joined (line ∷ rest) = line ++ 10 ∷ joined rest

-- a text with the line feed that its last line may lack
abbrev pub ended : List ℕ → List ℕ
ended [] = []
ended (b ∷ []) = if b == 10 then b ∷ [] else b ∷ 10 ∷ []
ended (b ∷ d ∷ ds) = b ∷ ended (d ∷ ds)

-- lines lose nothing of the text, and hold no line feed
abbrev pub LinesJoinedAgainAreTheText : Type 0
LinesJoinedAgainAreTheText = (text : List ℕ) → (joined (lines text) ≡ ended text) × All (Without 10) (lines text)

-- lines that were joined come back
abbrev pub LinesAreReadAsTheyAreWritten : Type 0
LinesAreReadAsTheyAreWritten = (each : List (List ℕ)) → All (Without 10) each → lines (joined each) ≡ each

-- what is printed of a number is read as that number
abbrev pub ANumberIsReadAsItIsWritten : Type 0
ANumberIsReadAsItIsWritten = (n : ℕ) → n ≤ 4294967295 → numeral (written n) ≡ Some n
