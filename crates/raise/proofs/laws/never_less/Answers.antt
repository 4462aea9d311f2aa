use Rattle.raise.proofs.Search.{never_less, nobody_loses}
use Rattle.raise.proofs.laws.never_less.Goals as goal

pub returns : goal.returns
returns c = record { stated = never_less; nobody = nobody_loses }
