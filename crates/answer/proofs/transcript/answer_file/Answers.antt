use Rattle.std.proofs.Common.{arith}
use Rattle.std.proofs.lemmas.List.{take_rest}
use Rattle.answer.proofs.transcript.answer_file.Goals as goal

pub returns : goal.returns
returns c =
    grind (arith, c.in-Some.ensures, c.deref_mut.ensures, c.in_ok-words.ensures.items_if_clones_equal (λ y e. e), c.words_asked.ensures.value, take_rest c.args.file.now 8, c.in_ok-answer_all.ensures, c.new-out.ensures.bytes)
