use Rattle.std.proofs.Common.{◌≡◌, suc, ◌-◌, ◌≤◌, ◌∙◌, refl, arith, w64, to_z, of_z}
use Rattle.std.proofs.lemmas.Int.{to_z-of_z}
use Rattle.hinges.specs.Hinges.{HingesOf}
use Rattle.lowest.proofs.Found.{found, segment_is, sized}
use Rattle.lowest.proofs.Walk.{stands, below, room_for_one, counted, written, goes_on, all_from}
use Rattle.lowest.proofs.Tells.{table_sized, table_fits}
use Rattle.lowest.proofs.table.write_entries.Goals as goal

pub put_entry-requires : goal.put_entry-requires
put_entry-requires c =
    let i = c.breakpoints.invariant in
    let rs = c.args.book.now.rules in
    let low : c.args.book.now.bound ≤ 1000000000 = rw (← c.bound-last.ensures.value) c.bound-last.ensures.low in
    let of : HingesOf rs c.as_slice-hinges.result.now = rw c.as_slice-hinges.ensures.value c.hinges_of-in_order.ensures.of in
    let s = c.segment-segment in
    omega (arith, room_for_one i.0 s.result.from (found low (stands _ _ i.0) of s.ensures.segment), c.requires, c.breakpoints.auto.part)

pub lowest-requires-clause-sized : goal.lowest-requires-clause-sized
lowest-requires-clause-sized c =
    let i = c.breakpoints.invariant in
    let rs = c.args.book.now.rules in
    let low : c.args.book.now.bound ≤ 1000000000 = rw (← c.bound-last.ensures.value) c.bound-last.ensures.low in
    let of : HingesOf rs c.as_slice-hinges.result.now = rw c.as_slice-hinges.ensures.value c.hinges_of-in_order.ensures.of in
    let s = c.segment-segment in
    sized low (stands _ _ i.0) of s.ensures.segment c.hinges_of-in_order.ensures.within

pub loop-fewer-init : goal.loop-fewer-init
loop-fewer-init c =
    let i = c.breakpoints.invariant in
    let rs = c.args.book.now.rules in
    let low : c.args.book.now.bound ≤ 1000000000 = rw (← c.bound-last.ensures.value) c.bound-last.ensures.low in
    let of : HingesOf rs c.as_slice-hinges.result.now = rw c.as_slice-hinges.ensures.value c.hinges_of-in_order.ensures.of in
    let s = c.segment-segment in
    let f = found low (stands _ _ i.0) of s.ensures.segment in
    let g = segment_is low (stands _ _ i.0) of s.ensures.segment in
    let v : to_z w64 (of_z w64 c.lowest.result) ≡ c.lowest.result = to_z-of_z w64 c.lowest.result (record { sfits = c.lowest.type_inv }) in
    let e : suc (s.result.from - 1) ≡ s.result.from = omega (arith, c.if-segment-eq0.false) in (
      rw e (goes_on i.0 s.result.from f s.result g c.put_entry.new.part c.put_entry.ensures _ c.if-segment-eq0.false (v ∙ c.lowest.ensures)),
      c.back_to-sweep.ensures.back c.as_slice-hinges.result.now c.breakpoints.last (rw c.as_slice-hinges.ensures.value c.hinges_of-in_order.ensures.ordered) i.1 s.ensures.segment,
      e,
      refl,
    )

pub returns-clause-count : goal.returns-clause-count
returns-clause-count c =
    let i = c.breakpoints.invariant in
    let rs = c.args.book.now.rules in
    let low : c.args.book.now.bound ≤ 1000000000 = rw (← c.bound-last.ensures.value) c.bound-last.ensures.low in
    let of : HingesOf rs c.as_slice-hinges.result.now = rw c.as_slice-hinges.ensures.value c.hinges_of-in_order.ensures.of in
    let s = c.segment-segment in
    let f = found low (stands _ _ i.0) of s.ensures.segment in
    let g = segment_is low (stands _ _ i.0) of s.ensures.segment in
    rw (c.if-segment-eq0.true, all_from rs c.args.book.now.bound) at (counted i.0 s.result.from f s.result g)

pub returns-clause-part : goal.returns-clause-part
returns-clause-part c =
    let i = c.breakpoints.invariant in
    let rs = c.args.book.now.rules in
    let low : c.args.book.now.bound ≤ 1000000000 = rw (← c.bound-last.ensures.value) c.bound-last.ensures.low in
    let of : HingesOf rs c.as_slice-hinges.result.now = rw c.as_slice-hinges.ensures.value c.hinges_of-in_order.ensures.of in
    let s = c.segment-segment in
    let f = found low (stands _ _ i.0) of s.ensures.segment in
    let g = segment_is low (stands _ _ i.0) of s.ensures.segment in
    rw (c.if-segment-eq0.true, all_from rs c.args.book.now.bound) at (written i.0 s.result.from f s.result g c.put_entry.new.part c.put_entry.ensures)

pub returns-clause-sized : goal.returns-clause-sized
returns-clause-sized c =
    let low : c.args.book.now.bound ≤ 1000000000 = rw (← c.bound-last.ensures.value) c.bound-last.ensures.low in
    table_sized c.args.book.now.rules c.args.book.now.bound low c.hinges_of-in_order.ensures.within

pub returns-clause-fits : goal.returns-clause-fits
returns-clause-fits c =
    let low : c.args.book.now.bound ≤ 1000000000 = rw (← c.bound-last.ensures.value) c.bound-last.ensures.low in
    table_fits c.args.book.now.rules c.args.book.now.bound low c.hinges_of-in_order.ensures.within

pub without_last-requires-clause-ordered : goal.without_last-requires-clause-ordered
without_last-requires-clause-ordered c = rw c.as_slice-hinges.ensures.value c.hinges_of-in_order.ensures.ordered

pub one_below-sweep-requires-clause-ordered : goal.one_below-sweep-requires-clause-ordered
one_below-sweep-requires-clause-ordered c = rw c.as_slice-hinges.ensures.value c.hinges_of-in_order.ensures.ordered

pub one_below-sweep-requires-clause-low : goal.one_below-sweep-requires-clause-low
one_below-sweep-requires-clause-low c =
    let i = c.breakpoints.invariant in
    let rs = c.args.book.now.rules in
    let low : c.args.book.now.bound ≤ 1000000000 = rw (← c.bound-last.ensures.value) c.bound-last.ensures.low in
    let of : HingesOf rs c.as_slice-hinges.result.now = rw c.as_slice-hinges.ensures.value c.hinges_of-in_order.ensures.of in
    let s = c.segment-segment in
    omega (arith, (below i.0 s.result.from (found low (stands _ _ i.0) of s.ensures.segment)).less, (stands _ _ i.0).1, low)

pub breakpoints-smaller : goal.breakpoints-smaller
breakpoints-smaller c =
    let i = c.breakpoints.invariant in
    let rs = c.args.book.now.rules in
    let low : c.args.book.now.bound ≤ 1000000000 = rw (← c.bound-last.ensures.value) c.bound-last.ensures.low in
    let of : HingesOf rs c.as_slice-hinges.result.now = rw c.as_slice-hinges.ensures.value c.hinges_of-in_order.ensures.of in
    let s = c.segment-segment in
    omega (arith, (below i.0 s.result.from (found low (stands _ _ i.0) of s.ensures.segment)).less, c.if-segment-eq0.false, c.loop-fewer.invariant.3)
