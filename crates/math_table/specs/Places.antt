-- Where things stand that the code has found: what contracts see of its types.
use Rattle.std.specs.Prelude.{ℕ}
use Rattle.math_table.specs.declared.runs.Run.{Run}

-- a key's construction: the least overlap, and where it begins
pub record Located : Type 0 where
  pub least : ℕ
  pub place : ℕ

-- its shape: the least overlap, and where its entries stand
pub record Shape : Type 0 where
  pub least : ℕ
  pub variants : Run
  pub parts : Run
