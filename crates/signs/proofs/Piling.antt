-- A pile that is written is read again.
use Rattle.std.proofs.Common.{ap, ◌∙◌, arith}
use Rattle.text.proofs.Written.{a_number_is_read_as_it_is_written}
use Rattle.signs.proofs.Fielding.{numbers_are_two_fields}
use Rattle.signs.specs.Laws.{APileIsReadAsItIsWritten}
use Rattle.signs.specs.Piles.{stacked, pile_in}

pub a_pile_is_read_as_it_is_written : APileIsReadAsItIsWritten
a_pile_is_read_as_it_is_written pile most most' =
    ap pile_in (numbers_are_two_fields pile.scale pile.cap (omega arith) (omega arith))
    ∙ (λ i. stacked (a_number_is_read_as_it_is_written pile.scale most i) (a_number_is_read_as_it_is_written pile.cap most' i))
