use Rattle.session.proofs.Runs.{enough_memory}
use Rattle.session.proofs.call.Goals as goal

pub returns-clause-enough : goal.returns-clause-enough
returns-clause-enough c = enough_memory
