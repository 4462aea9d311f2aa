use Rattle.std.proofs.Common.{◌≡◌, drop}
use Rattle.report.specs.Reading.{has_return}
use Rattle.report.proofs.reading.has_return.Given as goal

abbrev pub invariant-loop-byte : goal.invariant-loop-byte
invariant-loop-byte l = has_return l.line ≡ has_return (drop l.byte-index l.line)
