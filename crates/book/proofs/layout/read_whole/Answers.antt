use Rattle.book.proofs.Values.{no_front, no_rules, whole}
use Rattle.book.proofs.layout.read_whole.Goals as goal

pub returns-in_err-front : goal.returns-in_err-front
returns-in_err-front c = rw c.from_residual.ensures (no_front c.args.words.now c.in_err-front.ensures)

pub returns-in_err-rules : goal.returns-in_err-rules
returns-in_err-rules c = rw c.from_residual-in_err-rules.ensures (no_rules c.args.words.now c.in_ok-front.front c.in_ok-front.ensures c.in_err-rules.ensures.rules)

pub invariant_of-result : goal.invariant_of-result
invariant_of-result c = record { good = (whole c.args.words.now c.in_ok-front.front _ c.in_ok-front.ensures c.in_ok-rules.ensures.rules).good; first = c.in_ok-rules.ensures.rest }

pub returns : goal.returns
returns c = whole c.args.words.now c.in_ok-front.front _ c.in_ok-front.ensures c.in_ok-rules.ensures.rules
