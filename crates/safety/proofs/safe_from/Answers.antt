use Rattle.std.proofs.Common.{rules}
use Rattle.raise.proofs.Search.{told_is}
use Rattle.safety.proofs.Safe.{past, none_safe}
use Rattle.safety.proofs.safe_from.Goals as goal

pub returns-then-last-bound-clause-safe : goal.returns-then-last-bound-clause-safe
returns-then-last-bound-clause-safe c =
    let b = c.args.book.now in
    told_is b.rules b.bound c.args.gross _ (past b.rules b.bound c.args.gross c.last_less.result c.unwrap_or-last.result c.last_less.ensures (search rules) (search rules))

pub returns-else-last-bound-clause-safe : goal.returns-else-last-bound-clause-safe
returns-else-last-bound-clause-safe c =
    let b = c.args.book.now in
    told_is b.rules b.bound c.args.gross 0 (none_safe b.rules b.bound c.args.gross c.last_less.result c.unwrap_or-last.result c.last_less.ensures (search rules) (search rules))
