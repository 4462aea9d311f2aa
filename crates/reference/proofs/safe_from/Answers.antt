use Rattle.std.proofs.Common.{suc, ◌-◌, ◌&&◌, ltb, ◌∙◌, rules}
use Rattle.raise.specs.Rules.{all_as_much}
use Rattle.reference.proofs.Steps.{found}
use Rattle.reference.proofs.safe_from.Goals as goal

pub returns : goal.returns
returns c =
    let b = c.args.book.now in
    let at = c.new.ensures in
    found _ _ (λ h. ltb c.args.gross h && all_as_much b.rules c.args.gross (suc b.bound - h) h) (λ x t q k. search rules) _ _ _ _ _ (at.start, at.end ∙ c.bound.ensures.value, at.exhausted) c.find.ensures.ran
