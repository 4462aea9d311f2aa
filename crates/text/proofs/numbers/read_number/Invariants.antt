use Rattle.text.proofs.Digits.{Read}
use Rattle.text.proofs.numbers.read_number.Given as goal

abbrev pub invariant-loop-byte : goal.invariant-loop-byte
invariant-loop-byte l = Read l.word l.value l.byte-index
