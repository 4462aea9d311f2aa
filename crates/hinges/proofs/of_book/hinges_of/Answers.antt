use Rattle.std.proofs.Common.{◌≡◌, List, ap, ◌∙◌, arith}
use Rattle.std.proofs.lemmas.List.{take_all}
use Rattle.wire.specs.declared.calls.Rule as declared
use Rattle.book.specs.Meant.{all_meant}
use Rattle.hinges.specs.Hinges.{hinges}
use Rattle.hinges.proofs.Adding.{rule_more, few_more}
use Rattle.hinges.proofs.Tells.{tell, tell_of}
use Rattle.hinges.proofs.Order.{same_hinges, refilled}
use Rattle.hinges.proofs.of_book.hinges_of.Goals as goal

pub loop-rule-preserved : goal.loop-rule-preserved
loop-rule-preserved c =
    let rs = c.rules-rule-items.result.now in
    let i = c.loop-rule.rule-index in
    let hs = c.loop-rule.hinges.items in
    (c.push_rule.ensures ∙ rule_more rs i _ hs c.loop-rule-test.true c.loop-rule.invariant.0, rw c.push_rule.ensures (few_more hs _ i c.loop-rule.invariant.1))

pub returns-clause-of : goal.returns-clause-of
returns-clause-of c =
    let rs = c.args.book.now.rules in
    let r = c.rules-rule-items in
    let hs = c.loop-rule.hinges.items in
    let e : hs ≡ hinges rs =
    c.loop-rule.invariant.0 ∙ ap (λ (qs : List declared.Rule). hinges (all_meant qs)) (take_all c.loop-rule.rule-index r.result.now (omega (arith, c.loop-rule-test.false))) ∙ ap hinges r.ensures.rules in
    let p = rw c.as_mut_slice.ensures.value at c.sort.ensures.same in
    rw (refilled hs c.sort.new.hinges p) (same_hinges rs hs c.sort.new.hinges p (tell_of rs hs e r.ensures.within))

pub returns-clause-tell : goal.returns-clause-tell
returns-clause-tell c = tell
