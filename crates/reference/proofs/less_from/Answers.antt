use Rattle.std.proofs.Common.{◌∙◌, rules, tests}
use Rattle.reference.proofs.Steps.{some_found, less_is}
use Rattle.reference.proofs.less_from.Goals as goal

pub returns : goal.returns
returns c =
    let b = c.args.book.now in
    let at = c.new.ensures in
    some_found _ _ b.rules c.args.gross (λ x t q k. (search rules, search (rules, tests, less_is))) _ _ _ _ _ (at.start, at.end ∙ c.bound.ensures.value, at.exhausted) c.any.ensures.ran
