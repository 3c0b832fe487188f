-- A number that is written in decimal digits is read again.
use Rattle.std.proofs.Common.{◌≡◌, ◌≢◌, ℕ, ◌+◌, ◌^◌, ◌<◌, true, [], decimal as written, arith}
use Rattle.std.proofs.lemmas.Fmt.{digits_decimal, digits_value-decimal, length-decimal-le, decimal_nonempty, decimal_by_steps}
use Rattle.std.proofs.lemmas.Grind.{common_steps}
use Rattle.std.proofs.lemmas.List.Elements.{All-nil, All-cons, All-push}
use Rattle.std.specs.Char.{is_ascii_digit}
use Rattle.std.specs.List.{list_all}
use Rattle.text.specs.Numbers.{decimal}
use Rattle.text.proofs.Reading.{own}
use Rattle.text.specs.Laws.{Without, ANumberIsReadAsItIsWritten}

pub a_number_is_read_as_it_is_written : ANumberIsReadAsItIsWritten
a_number_is_read_as_it_is_written n most =
    let small : n < 2 ^ 64 = omega arith in
    let all : list_all is_ascii_digit (written n) ≡ true = digits_decimal own n small in
    let is : decimal 0 (written n) ≡ n = digits_value-decimal own n small in
    let few = length-decimal-le 10 n (omega arith) (omega arith) small in
    grind (arith, common_steps, all, is, few, decimal_nonempty n small)

-- a written number has digits only
pub written_without : (b n : ℕ) → b < 48 → n < 2 ^ 64 → Without b (written n)
written_without b n low small =
    decimal_by_steps (λ n ds. Without b ds)
    (λ n d. All-cons (λ x. x ≢ b) (48 + n) [] (omega arith) (All-nil _))
    (λ n ds d w. All-push (λ x. x ≢ b) ds _ w (omega arith))
    n small
