use Rattle.raise.proofs.Rows.{row_stands}
use Rattle.raise.proofs.AllRows.{one_row}
use Rattle.raise.proofs.laws.rows.Goals as goal

pub returns : goal.returns
returns c = record { told = row_stands; only = one_row }
