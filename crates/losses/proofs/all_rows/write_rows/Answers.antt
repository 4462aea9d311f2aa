use Rattle.std.proofs.Common.{suc}
use Rattle.raise.specs.Rules.{loses}
use Rattle.raise.specs.Rows.{losing_rows}
use Rattle.raise.proofs.AllRows.{losing_found, only_rows}
use Rattle.losses.proofs.all_rows.write_rows.Goals as goal

pub returns-clause-exact : goal.returns-clause-exact
returns-clause-exact c = losing_found c.args.book.now.rules c.args.book.now.bound

pub returns-clause-only : goal.returns-clause-only
returns-clause-only c = λ others i.
    let rs = c.args.book.now.rules in
    let b = c.args.book.now.bound in
    only_rows (loses rs b) (suc b) others (losing_rows rs b) i (losing_found rs b)
