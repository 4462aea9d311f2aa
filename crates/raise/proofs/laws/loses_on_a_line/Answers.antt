use Rattle.raise.proofs.Lows.{loses_on_a_line}
use Rattle.raise.proofs.laws.loses_on_a_line.Goals as goal

pub returns : goal.returns
returns c = loses_on_a_line
