use Rattle.raise.proofs.Alike.{alike}
use Rattle.raise.proofs.laws.alike.Goals as goal

pub returns : goal.returns
returns c = alike
