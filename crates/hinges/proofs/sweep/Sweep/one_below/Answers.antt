use Rattle.hinges.proofs.Down.{room_at, below}
use Rattle.hinges.proofs.sweep.Sweep.one_below.Goals as goal

pub one_back-requires : goal.one_back-requires
one_back-requires c = room_at c.requires.undone c.requires.sized c.requires.low

pub returns : goal.returns
returns c = rw c.one_back.ensures (below c.requires.undone c.requires.some c.requires.none)
