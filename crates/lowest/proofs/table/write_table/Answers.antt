use Rattle.lowest.proofs.Tells.{is_table}
use Rattle.lowest.proofs.table.write_table.Goals as goal

pub returns-clause-table : goal.returns-clause-table
returns-clause-table c = is_table
