use Rattle.std.proofs.Common.{suc, ◌≤◌}
use Rattle.raise.specs.Laws.{SafeOn}
use Rattle.hinges.specs.Sweep.{SweepAt}
use Rattle.safety.proofs.less.last_less.Given as goal

abbrev pub invariant-loop-last : goal.invariant-loop-last
invariant-loop-last l = (l.last ≤ l.book.bound) × (l.own.to ≤ suc l.last) × SafeOn l.book.rules l.book.bound l.gross (suc l.last) × SweepAt l.hinges l.last l.sweep

abbrev pub decreases-loop-last : goal.decreases-loop-last
decreases-loop-last l = l.last
