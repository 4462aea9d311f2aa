use Rattle.std.proofs.Common.{◌<◌, ap, ◌∙◌, arith, rules}
use Rattle.std.proofs.lemmas.List.{take_all}
use Rattle.raise.specs.Rules.{all_plus, all_minus}
use Rattle.book.specs.Held.{Within}
use Rattle.book.specs.Meant.{all_meant}
use Rattle.book.proofs.Sums.{one_more, amounts_fit}
use Rattle.book.proofs.value.Book.flows_of.Goals as goal

pub loop-rule-init : goal.loop-rule-init
unfolding all_plus all_minus
loop-rule-init c = (c.ten_thousandths-inflow.ensures, omega arith)

pub overflow_add-inflow : goal.overflow_add-inflow
overflow_add-inflow c =
    let w : Within (all_meant c.rules-rule-items.result.now) = rw c.rules-rule-items.ensures.rules c.rules-rule-items.ensures.within in
    let low : c.args.gross < 4294967296 = search rules in
    let m = one_more c.rules-rule-items.result.now c.loop-rule.rule-index c.args.gross _ _ _ w low (omega arith) c.flows_by-flows.ensures.inflow c.flows_by-flows.ensures.outflow in
    record { fits = omega (arith, m.inflow_fits, c.loop-rule.invariant.0) }

pub overflow_add-outflow : goal.overflow_add-outflow
overflow_add-outflow c =
    let w : Within (all_meant c.rules-rule-items.result.now) = rw c.rules-rule-items.ensures.rules c.rules-rule-items.ensures.within in
    let low : c.args.gross < 4294967296 = search rules in
    let m = one_more c.rules-rule-items.result.now c.loop-rule.rule-index c.args.gross _ _ _ w low (omega arith) c.flows_by-flows.ensures.inflow c.flows_by-flows.ensures.outflow in
    record { fits = omega (arith, m.outflow_fits, c.loop-rule.invariant.1) }

pub loop-rule-preserved : goal.loop-rule-preserved
loop-rule-preserved c =
    let w : Within (all_meant c.rules-rule-items.result.now) = rw c.rules-rule-items.ensures.rules c.rules-rule-items.ensures.within in
    let low : c.args.gross < 4294967296 = search rules in
    let m = one_more c.rules-rule-items.result.now c.loop-rule.rule-index c.args.gross _ _ _ w low (omega arith) c.flows_by-flows.ensures.inflow c.flows_by-flows.ensures.outflow in
    (omega (arith, m.plus, c.loop-rule.invariant.0), omega (arith, m.minus, c.loop-rule.invariant.1))

pub returns : goal.returns
returns c =
    let g = c.args.gross in
    let rs = c.rules-rule-items.result.now in
    let low : g < 4294967296 = search rules in
    let f = amounts_fit c.args.self.now.rules g c.rules-rule-items.ensures.within low in
    let e = ap all_meant (take_all c.loop-rule.rule-index rs (omega arith)) ∙ c.rules-rule-items.ensures.rules in
    let i = c.loop-rule.invariant.0 ∙ ap (λ qs. all_plus qs g) e in
    let o = c.loop-rule.invariant.1 ∙ ap (λ qs. all_minus qs g) e in
    record { inflow = i; outflow = o; small = (omega (arith, i, f.0), omega (arith, o, f.1)); fits = amounts_fit }
