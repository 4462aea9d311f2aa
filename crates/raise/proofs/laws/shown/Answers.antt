use Rattle.raise.proofs.Search.{shown, lost}
use Rattle.raise.proofs.laws.shown.Goals as goal

pub returns : goal.returns
returns c = record { stated = shown; decided = lost }
