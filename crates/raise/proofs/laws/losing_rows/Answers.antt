use Rattle.raise.proofs.AllRows.{losing_found, only_rows, row_is_first}
use Rattle.raise.proofs.laws.losing_rows.Goals as goal

pub returns : goal.returns
returns c =
    record { exact = losing_found; only = λ rs b rows i. only_rows _ _ rows _ i (losing_found rs b); row = λ l rs g. row_is_first l rs g _ (losing_found rs l.bound) }
