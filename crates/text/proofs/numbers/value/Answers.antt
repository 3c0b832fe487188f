use Rattle.std.proofs.Common.{arith}
use Rattle.text.proofs.Reading.{below_ten_digits, read_more, read_none, read_all}
use Rattle.text.proofs.numbers.value.Goals as goal

pub overflow_mul-value : goal.overflow_mul-value
overflow_mul-value c = omega (arith, below_ten_digits c.loop-byte.value c.loop-byte.byte-index c.loop-byte.invariant.0 (omega arith))

pub overflow_add-value : goal.overflow_add-value
overflow_add-value c = omega (arith, below_ten_digits c.loop-byte.value c.loop-byte.byte-index c.loop-byte.invariant.0 (omega arith))

pub loop-byte-preserved : goal.loop-byte-preserved
loop-byte-preserved c =
    rw c.from.ensures
    (read_more c.loop-byte.value c.args.field.now c.loop-byte.byte-index c.loop-byte.invariant c.in_ok-digit.field-0
    c.loop-byte-test.true c.in_ok-digit.ensures)

pub returns-in_err-digit : goal.returns-in_err-digit
returns-in_err-digit c =
    rw c.from_residual.ensures
    (read_none c.loop-byte.value c.args.field.now c.loop-byte.byte-index c.loop-byte.invariant c.loop-byte-test.true c.in_err-digit.ensures)

pub returns : goal.returns
returns c = read_all c.loop-byte.value c.args.field.now c.loop-byte.byte-index c.loop-byte.invariant c.loop-byte-test.false
