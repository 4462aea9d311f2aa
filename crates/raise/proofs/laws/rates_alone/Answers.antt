use Rattle.raise.proofs.Rates.{rates_alone, just_within}
use Rattle.raise.proofs.laws.rates_alone.Goals as goal

pub returns : goal.returns
returns c = record { stated = rates_alone; just = just_within }
