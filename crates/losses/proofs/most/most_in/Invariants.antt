use Rattle.losses.proofs.Descent.{At}
use Rattle.losses.proofs.most.most_in.Given as goal

abbrev pub invariant-loop-words : goal.invariant-loop-words
invariant-loop-words l = At l.book.rules l.book.bound l.row l.words-items l.words-index l.most
