use Rattle.raise.proofs.Straight.{share_straight, net_straight, breaks_by_borders}
use Rattle.raise.proofs.laws.straight.Goals as goal

pub returns : goal.returns
returns c = record { one = share_straight; all = net_straight; borders = breaks_by_borders }
