use Rattle.raise.proofs.Order.{any_order}
use Rattle.raise.proofs.Alike.{any_order_asked}
use Rattle.raise.proofs.laws.any_order.Goals as goal

pub returns : goal.returns
returns c = record { stated = any_order; asked = any_order_asked }
