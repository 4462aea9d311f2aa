use Rattle.segments.proofs.Marks.{Tells}
use Rattle.segments.proofs.slopes.holding_at.Given as goal

abbrev pub invariant-loop-i : goal.invariant-loop-i
invariant-loop-i l = Tells l.rules l.gross l.i l.bits
