-- Bytes, cut at the first separator.
use Rattle.std.specs.Prelude.{ℕ, if◌then◌else◌, List, [], ◌∷◌, Some, None, Option, ◌==◌}

-- what stands before the first separator, all where there is none
abbrev pub before : ℕ → List ℕ → List ℕ
before separator [] = []
before separator (b ∷ bs) = if b == separator then [] else b ∷ before separator bs

-- what stands after the first separator, if there is one
abbrev pub after : ℕ → List ℕ → Option (List ℕ)
after separator [] = None
after separator (b ∷ bs) = if b == separator then Some bs else after separator bs
