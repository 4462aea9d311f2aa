use Rattle.std.proofs.Common.{arith}
use Rattle.hinges.proofs.Down.{passed_none, passed_one, passed_room, stops, ends}
use Rattle.hinges.proofs.sweep.Sweep.up_to.Goals as goal

pub loop-hinge-init : goal.loop-hinge-init
loop-hinge-init c = passed_none c.args.hinges.now c.args.gross

pub returns-then-gross-hinge : goal.returns-then-gross-hinge
returns-then-gross-hinge c = stops c.loop-hinge.invariant c.requires.ordered _ c.loop-hinge-test.true c.if-gross-hinge.true

pub with-sweep-requires-clause-room : goal.with-sweep-requires-clause-room
with-sweep-requires-clause-room c = passed_room c.loop-hinge.invariant c.requires.sized c.requires.low (omega (arith, c.loop-hinge-test.true))

pub loop-hinge-preserved : goal.loop-hinge-preserved
loop-hinge-preserved c = rw c.with-sweep.ensures (passed_one c.loop-hinge.invariant _ c.loop-hinge-test.true (omega (arith, c.if-gross-hinge.false)))

pub returns : goal.returns
returns c = ends c.loop-hinge.invariant (omega arith)
