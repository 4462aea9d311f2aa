use Rattle.hinges.proofs.Down.{Passed}
use Rattle.hinges.proofs.sweep.Sweep.up_to.Given as goal

abbrev pub invariant-loop-hinge : goal.invariant-loop-hinge
invariant-loop-hinge l = Passed l.hinges l.gross l.hinge-index l.sweep
