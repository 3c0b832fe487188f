use Rattle.text.proofs.Reading.{Read}
use Rattle.text.proofs.numbers.value.Given as goal

abbrev pub invariant-loop-byte : goal.invariant-loop-byte
invariant-loop-byte l = Read l.value l.field l.byte-index
