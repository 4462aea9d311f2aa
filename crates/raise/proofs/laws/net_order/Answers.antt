use Rattle.raise.proofs.Straight.{net_order}
use Rattle.raise.proofs.laws.net_order.Goals as goal

pub returns : goal.returns
returns c = net_order
