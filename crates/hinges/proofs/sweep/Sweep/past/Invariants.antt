use Rattle.hinges.specs.Sweep.{UndoneAt}
use Rattle.hinges.proofs.sweep.Sweep.past.Given as goal

abbrev pub invariant-loop-fewer : goal.invariant-loop-fewer
invariant-loop-fewer l = UndoneAt l.hinges l.segment.from l.sweep

abbrev pub decreases-loop-fewer : goal.decreases-loop-fewer
decreases-loop-fewer l = l.sweep.many
