-- What is told by what was found for a key.
use Rattle.std.specs.Prelude.{ℕ, Some, None, Option}

-- the entry at an index, and none where nothing was found
abbrev pub told : {Found X : Type 0} → (Found → ℕ → Option X) → ℕ → Option Found → Option X
told entry i None = None
told entry i (Some found) = entry found i
