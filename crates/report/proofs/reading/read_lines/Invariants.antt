use Rattle.report.proofs.Files.{AtLine}
use Rattle.report.proofs.reading.read_lines.Given as goal

abbrev pub invariant-loop-line : goal.invariant-loop-line
invariant-loop-line l = AtLine l.text l.words l.fresh l.number l.line-iterator
