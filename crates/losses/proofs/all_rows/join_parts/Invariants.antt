use Rattle.losses.proofs.Walk.{At}
use Rattle.losses.proofs.all_rows.join_parts.Given as goal

abbrev pub invariant-loop-words : goal.invariant-loop-words
invariant-loop-words l = At l.book.rules l.book.bound l.fn.rows l.words-iterator.iter.rest.now l.written l.last l.rows
