use Rattle.std.proofs.Common.{◌∙◌}
use Rattle.hinges.proofs.Down.{room_at, last_low, segment_is}
use Rattle.hinges.proofs.Points.{breakpoints_below}
use Rattle.hinges.proofs.Tells.{segments_tell}
use Rattle.hinges.proofs.sweep.Sweep.segment.Goals as goal

pub line-requires-clause-room : goal.line-requires-clause-room
line-requires-clause-room c = room_at c.requires.sweep c.requires.sized c.requires.low

pub line-requires-clause-order : goal.line-requires-clause-order
line-requires-clause-order c = rw c.last_at.ensures (last_low c.requires.sweep)

pub returns-clause-segment : goal.returns-clause-segment
returns-clause-segment c = c.line.ensures ∙ rw c.last_at.ensures (segment_is c.requires.ordered c.requires.sweep)

pub returns-clause-tell : goal.returns-clause-tell
returns-clause-tell c = segments_tell

pub returns-clause-greatest : goal.returns-clause-greatest
returns-clause-greatest c = breakpoints_below
