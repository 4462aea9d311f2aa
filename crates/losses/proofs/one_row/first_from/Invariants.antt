use Rattle.losses.proofs.Firsts.{Passed}
use Rattle.losses.proofs.one_row.first_from.Given as goal

abbrev pub invariant-loop-words : goal.invariant-loop-words
invariant-loop-words l = Passed l.words-items l.words-index l.gross
