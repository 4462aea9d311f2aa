use Rattle.raise.proofs.OtherKinds.{others_unused}
use Rattle.raise.proofs.laws.kinds.Goals as goal

pub returns : goal.returns
returns c = others_unused
