use Rattle.std.proofs.Common.{◌≡◌, take}
use Rattle.raise.specs.Rules.{all_plus, all_minus}
use Rattle.book.specs.Meant.{all_meant}
use Rattle.book.proofs.value.Book.flows_of.Given as goal

abbrev pub invariant-loop-rule : goal.invariant-loop-rule
invariant-loop-rule l =
    (l.inflow ≡ all_plus (all_meant (take l.rule-index l.rule-items)) l.gross) × (l.outflow ≡ all_minus (all_meant (take l.rule-index l.rule-items)) l.gross)
