use Rattle.raise.proofs.Lows.{lowest_is, lowest_down}
use Rattle.raise.proofs.laws.lowest.Goals as goal

pub returns : goal.returns
returns c = record { least = lowest_is; down = lowest_down }
