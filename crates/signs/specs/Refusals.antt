-- The numbers of refusals.
use Rattle.std.specs.Prelude.{ℕ}
use Rattle.signs.specs.declared.refusals.Refused.{Refused}
use Rattle.signs.specs.declared.refusals.Refused.TheVariants.{TooLong, NoTable}

-- the question that got a no: is the input short enough, and is it a table?
abbrev pub refusal_number : Refused → ℕ
refusal_number (TooLong input) = 13
refusal_number (NoTable input refusal) = 14
