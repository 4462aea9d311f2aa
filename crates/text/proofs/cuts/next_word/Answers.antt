use Rattle.std.proofs.Common.{sym, ◌∙◌}
use Rattle.text.proofs.Pieces.{no_word, one_word}
use Rattle.text.proofs.cuts.next_word.Goals as goal

pub returns-then-is_empty : goal.returns-then-is_empty
returns-then-is_empty c = no_word c.args.text.now c.cut.result.1.now c.cut.ensures.onward (sym c.is_empty.ensures ∙ c.if-is_empty.true)

pub returns : goal.returns
returns c = one_word c.args.text.now c.cut.result.1.now c.cut-2.result.0.now c.cut-2.result.1.now c.cut.ensures.onward (sym c.is_empty.ensures ∙ c.if-is_empty.false) c.cut-2.ensures.before c.cut-2.ensures.onward
