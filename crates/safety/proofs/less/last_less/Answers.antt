use Rattle.std.proofs.Common.{◌≡◌, ◌<◌, ◌≤◌, sym, ap, ◌∙◌, rules, arith, w64, to_z, of_z}
use Rattle.segments.specs.declared.lines.Segment.{Segment}
use Rattle.segments.proofs.Cover.{segment_line}
use Rattle.hinges.specs.Hinges.{HingesOf}
use Rattle.safety.proofs.Walk.{whole, found, passes, last_own}
use Rattle.safety.proofs.less.last_less.Goals as goal

pub last_below-less-requires-clause-sized : goal.last_below-less-requires-clause-sized
last_below-less-requires-clause-sized c =
    let b = c.args.book.now in
    let i = c.loop-last.invariant in
    let own = c.segment_from-own in
    let s = c.segment-segment in
    let of : HingesOf b.rules c.as_slice-hinges.result.now = rw c.as_slice-hinges.ensures.value c.hinges_of-in_order.ensures.of in
    let low : c.loop-last.last ≤ 1000000000 = omega (arith, i.0, c.bound.ensures.value, c.bound.ensures.low) in
    let w = whole b.rules b.bound c.as_slice-hinges.result.now own.result c.loop-last.last s.result of c.hinges_of-in_order.ensures.within own.ensures.line c.loop-last-test.true i.0 low s.ensures.segment in
    w.sized

pub returns-then-is_some : goal.returns-then-is_some
returns-then-is_some c =
    let b = c.args.book.now in
    let i = c.loop-last.invariant in
    let own = c.segment_from-own in
    let s = c.segment-segment in
    let of : HingesOf b.rules c.as_slice-hinges.result.now = rw c.as_slice-hinges.ensures.value c.hinges_of-in_order.ensures.of in
    let low : c.loop-last.last ≤ 1000000000 = omega (arith, i.0, c.bound.ensures.value, c.bound.ensures.low) in
    let w = whole b.rules b.bound c.as_slice-hinges.result.now own.result c.loop-last.last s.result of c.hinges_of-in_order.ensures.within own.ensures.line c.loop-last-test.true i.0 low s.ensures.segment in
    let n : to_z w64 (of_z w64 own.result.net) ≡ own.result.net = search rules in
    let sweep = n ∙ ap (λ (t : Segment). t.net) own.ensures.segment in
    let past : c.args.gross < own.result.to = rw (ap (λ (t : Segment). t.from) own.ensures.segment) at own.ensures.line.ends.above in
    found c.args.gross i.2 (to_z w64 (of_z w64 own.result.net)) sweep past s.result w c.last_below-less.result (search rules) c.last_below-less.ensures

pub past-sweep-requires-clause-ordered : goal.past-sweep-requires-clause-ordered
past-sweep-requires-clause-ordered c = rw c.as_slice-hinges.ensures.value c.hinges_of-in_order.ensures.ordered

pub past-sweep-requires-clause-some : goal.past-sweep-requires-clause-some
past-sweep-requires-clause-some c =
    let b = c.args.book.now in
    let i = c.loop-last.invariant in
    let own = c.segment_from-own in
    let s = c.segment-segment in
    let of : HingesOf b.rules c.as_slice-hinges.result.now = rw c.as_slice-hinges.ensures.value c.hinges_of-in_order.ensures.of in
    let low : c.loop-last.last ≤ 1000000000 = omega (arith, i.0, c.bound.ensures.value, c.bound.ensures.low) in
    let w = whole b.rules b.bound c.as_slice-hinges.result.now own.result c.loop-last.last s.result of c.hinges_of-in_order.ensures.within own.ensures.line c.loop-last-test.true i.0 low s.ensures.segment in
    omega (arith, w.past, own.ensures.line.ends.above)

pub overflow_sub-last : goal.overflow_sub-last
overflow_sub-last c =
    let b = c.args.book.now in
    let i = c.loop-last.invariant in
    let own = c.segment_from-own in
    let s = c.segment-segment in
    let of : HingesOf b.rules c.as_slice-hinges.result.now = rw c.as_slice-hinges.ensures.value c.hinges_of-in_order.ensures.of in
    let low : c.loop-last.last ≤ 1000000000 = omega (arith, i.0, c.bound.ensures.value, c.bound.ensures.low) in
    let w = whole b.rules b.bound c.as_slice-hinges.result.now own.result c.loop-last.last s.result of c.hinges_of-in_order.ensures.within own.ensures.line c.loop-last-test.true i.0 low s.ensures.segment in
    omega (arith, w.past, own.ensures.line.ends.above)

pub loop-last-smaller : goal.loop-last-smaller
loop-last-smaller c =
    let b = c.args.book.now in
    let i = c.loop-last.invariant in
    let own = c.segment_from-own in
    let s = c.segment-segment in
    let of : HingesOf b.rules c.as_slice-hinges.result.now = rw c.as_slice-hinges.ensures.value c.hinges_of-in_order.ensures.of in
    let low : c.loop-last.last ≤ 1000000000 = omega (arith, i.0, c.bound.ensures.value, c.bound.ensures.low) in
    let w = whole b.rules b.bound c.as_slice-hinges.result.now own.result c.loop-last.last s.result of c.hinges_of-in_order.ensures.within own.ensures.line c.loop-last-test.true i.0 low s.ensures.segment in
    omega (arith, w.past, w.ends, w.line.some, own.ensures.line.ends.above)

pub loop-last-preserved : goal.loop-last-preserved
loop-last-preserved c =
    let b = c.args.book.now in
    let i = c.loop-last.invariant in
    let own = c.segment_from-own in
    let s = c.segment-segment in
    let of : HingesOf b.rules c.as_slice-hinges.result.now = rw c.as_slice-hinges.ensures.value c.hinges_of-in_order.ensures.of in
    let low : c.loop-last.last ≤ 1000000000 = omega (arith, i.0, c.bound.ensures.value, c.bound.ensures.low) in
    let w = whole b.rules b.bound c.as_slice-hinges.result.now own.result c.loop-last.last s.result of c.hinges_of-in_order.ensures.within own.ensures.line c.loop-last-test.true i.0 low s.ensures.segment in
    let n : to_z w64 (of_z w64 own.result.net) ≡ own.result.net = search rules in
    let sweep = n ∙ ap (λ (t : Segment). t.net) own.ensures.segment in
    let past : c.args.gross < own.result.to = rw (ap (λ (t : Segment). t.from) own.ensures.segment) at own.ensures.line.ends.above in (
      omega (arith, i.0, w.line.some, w.ends),
      omega (arith, w.past),
      passes c.args.gross i.2 (to_z w64 (of_z w64 own.result.net)) sweep past s.result w c.last_below-less.result (search rules) c.last_below-less.ensures,
      c.past-sweep.ensures,
    )

pub returns : goal.returns
returns c =
    let own = c.segment_from-own in
    let b = c.args.book.now in
    let i = c.loop-last.invariant in
    let n : to_z w64 (of_z w64 own.result.net) ≡ own.result.net = search rules in
    let sweep = n ∙ ap (λ (t : Segment). t.net) own.ensures.segment in
    last_own c.args.gross i.2 (to_z w64 (of_z w64 own.result.net)) sweep own.result (ap (λ (t : Segment). t.from) own.ensures.segment) (sym n) (segment_line b.rules b.bound own.result own.ensures.line)
    (omega (arith, i.1, c.loop-last-test.false)) c.last_below.result c.last_below.ensures
