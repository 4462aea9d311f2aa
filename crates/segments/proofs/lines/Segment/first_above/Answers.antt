use Rattle.std.proofs.Common.{rules}
use Rattle.segments.proofs.Above.{found_above}
use Rattle.segments.proofs.lines.Segment.first_above.Goals as goal

pub returns-then-first-from : goal.returns-then-first-from
returns-then-first-from c =
    found_above c.args.self c.args.level c.abs_diff.result c.unsigned_abs.result c.in_ok-steps.steps c.one_past-first.result (search rules) c.requires.rises (search rules) (search rules) (search rules) (search rules)
    (search rules) (search rules) (search rules)
