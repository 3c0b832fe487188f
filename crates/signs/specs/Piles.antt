-- The pile in a line.
use Rattle.std.specs.Prelude.{ℕ, List, Some, None, Ok, Err, Option, Result}
use Rattle.signs.specs.declared.piles.BadPile.{BadPile}
use Rattle.signs.specs.declared.piles.BadPile.TheVariants.{NotTwoFields, NoScale, NoCap}
use Rattle.signs.specs.declared.piles.Pile.{Pile}
use Rattle.signs.specs.Fields.{two_fields}
use Rattle.text.specs.Numbers.{numeral}

-- a scale and a cap, and else which of them is no number, the scale first
abbrev pub stacked : Option ℕ → Option ℕ → Result Pile BadPile
stacked None cap = Err NoScale
stacked (Some scale) None = Err NoCap
stacked (Some scale) (Some cap) = Ok (record { scale = scale; cap = cap })

-- the pile in two fields
abbrev pub pile_in : Option (List ℕ × List ℕ) → Result Pile BadPile
pile_in None = Err NotTwoFields
pile_in (Some fields) = stacked (numeral fields.0) (numeral fields.1)

-- the pile that a line tells
abbrev pub piled : List ℕ → Result Pile BadPile
piled line = pile_in (two_fields line)
