use Rattle.std.proofs.Common.{◌∙◌, rules}
use Rattle.raise.specs.Rules.{loses}
use Rattle.reference.proofs.Steps.{found}
use Rattle.reference.proofs.first_losing.Goals as goal

pub returns : goal.returns
returns c =
    let b = c.args.book.now in
    let at = c.new.ensures in
    found _ _ (loses b.rules b.bound) (λ x t q k. search rules) _ _ _ _ _ (at.start, at.end ∙ c.bound.ensures.value, at.exhausted) c.find.ensures.ran
