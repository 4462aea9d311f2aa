use Rattle.std.proofs.Common.{ap, sym, ◌∙◌}
use Rattle.session.specs.Memory.{said_open}
use Rattle.report.proofs.Lays.{opens, too_high}
use Rattle.report.proofs.reading.bound_at.Goals as goal

pub returns-in-Ok : goal.returns-in-Ok
returns-in-Ok c = λ d h f. opens c.args.words.now c.open.new.words d h c.args.bound (ap said_open (sym c.in-Ok.is) ∙ c.open.ensures.said) c.open.ensures.words f

pub returns-in-Err : goal.returns-in-Err
returns-in-Err c = λ d h f. too_high c.args.words.now c.open.new.words d h c.args.bound c.in-Err.refusal _ (ap said_open (sym c.in-Err.is) ∙ c.open.ensures.said) f
