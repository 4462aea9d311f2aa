use Rattle.std.proofs.Common.{refl, arith}
use Rattle.raise.specs.Net.{on_line}
use Rattle.hinges.proofs.Adding.{line_size, kept_sum}
use Rattle.hinges.proofs.sweep.Sweep.with.Goals as goal

pub returns : goal.returns
returns c =
    let s = c.args.self in
    let h = c.args.hinge in
    let r = c.requires in
    let n = kept_sum s.net (on_line h.at h.jump h.pace c.args.gross) r.room.0 (line_size h c.args.gross r.sized r.low) in
    let d = kept_sum s.slope h.pace (omega (arith, r.room.1)) (omega (arith, r.sized.1)) in
    rw (c.line_at.ensures, n, d) refl
