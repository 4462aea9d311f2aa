use Rattle.raise.proofs.Numbered.{lifted, lifted_again}
use Rattle.raise.proofs.laws.numbered.Goals as goal

pub returns : goal.returns
returns c = record { lifted = lifted; laid = lifted_again }
