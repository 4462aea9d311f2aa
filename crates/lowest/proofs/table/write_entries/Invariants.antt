use Rattle.std.proofs.Common.{◌≡◌, suc}
use Rattle.hinges.specs.Sweep.{SweepAt, UndoneAt}
use Rattle.lowest.proofs.Walk.{At}
use Rattle.lowest.proofs.table.write_entries.Given as goal

abbrev pub invariant-breakpoints : goal.invariant-breakpoints
invariant-breakpoints l = At l.book.rules l.book.bound l.fn.part (suc l.last) l.count l.lowest_above l.part × SweepAt l.hinges l.last l.sweep

abbrev pub decreases-breakpoints : goal.decreases-breakpoints
decreases-breakpoints l = l.last

abbrev pub invariant-loop-fewer : goal.invariant-loop-fewer
invariant-loop-fewer l =
    At l.book.rules l.book.bound l.fn.part (suc l.last) l.count l.lowest_above l.part × UndoneAt l.hinges l.segment.from l.sweep × (suc l.last ≡ l.segment.from) × (l.last ≡ l.initial.last)

abbrev pub decreases-loop-fewer : goal.decreases-loop-fewer
decreases-loop-fewer l = l.sweep.many
