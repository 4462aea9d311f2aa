use Rattle.std.proofs.Common.{arith}
use Rattle.book.specs.Meant.{all_meant}
use Rattle.segments.proofs.Along.{holding_along}
use Rattle.segments.proofs.Marks.{all_rules}
use Rattle.segments.proofs.slopes.holding_at.Goals as goal

pub returns-clause-along : goal.returns-clause-along
returns-clause-along c =
    let rs = c.args.rules.now in
    let m = c.loop-i.bits in
    λ to g. holding_along (all_meant rs) m c.args.gross to g (all_rules rs c.args.gross c.loop-i.i m (omega arith) c.loop-i.invariant)
