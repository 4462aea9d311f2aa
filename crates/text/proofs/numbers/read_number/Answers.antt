use Rattle.std.proofs.Common.{sym, ◌∙◌, rules}
use Rattle.text.proofs.Digits.{stops, ends}
use Rattle.text.proofs.numbers.read_number.Goals as goal

pub returns-in_err-value : goal.returns-in_err-value
returns-in_err-value c = search (rules, stops c.args.word.now c.loop-byte.value c.loop-byte.byte-index c.loop-byte.invariant)

pub returns : goal.returns
returns c = sym (ends c.args.word.now c.loop-byte.value c.loop-byte.byte-index c.loop-byte.invariant c.loop-byte-test.false (sym c.is_empty.ensures ∙ c.if-is_empty.false))
