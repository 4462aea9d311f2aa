use Rattle.std.proofs.Common.{◌≡◌, ◌++◌, length, map}
use Rattle.text.specs.Words.{word_of, words_of, words_in}
use Rattle.text.proofs.words.read_words.Given as goal

abbrev pub invariant-loop-word : goal.invariant-loop-word
invariant-loop-word l = words_of l.line ≡ l.words.items ++ map word_of (words_in l.rest)

abbrev pub decreases-loop-word : goal.decreases-loop-word
decreases-loop-word l = length l.rest
