-- The two fields of a line.
use Rattle.std.specs.Prelude.{ℕ, if◌then◌else◌, List, is_some, Some, None, Option}
use Rattle.text.specs.Cuts.{before, after}

-- two fields, where the second holds no tab
abbrev pub parted : List ℕ → Option (List ℕ) → Option (List ℕ × List ℕ)
parted front None = None
parted front (Some back) = if is_some (after 9 back) then None else Some (front, back)

-- what stands before and after a line's only tab
abbrev pub two_fields : List ℕ → Option (List ℕ × List ℕ)
two_fields line = parted (before 9 line) (after 9 line)
