use Rattle.std.proofs.Common.{◌≡◌, ◌+◌, suc, rules, ap, refl, ◌∙◌, arith}
use Rattle.std.specs.Str.Iter.{lines_rest}
use Rattle.report.proofs.Files.{at_first, one_line, no_line, countable, added, misfits}
use Rattle.report.proofs.reading.read_lines.Goals as goal

pub loop-line-init : goal.loop-line-init
loop-line-init c =
    at_first c.args.text.now c.open_blank.new.words c.into_iter-line-iterator.result (ap lines_rest c.into_iter-line-iterator.ensures.into_iter_gives ∙ c.lines_of-line-items.ensures)
    c.open_blank.ensures

pub overflow_add-number : goal.overflow_add-number
overflow_add-number c =
    let o = one_line c.args.text.now c.loop-line.words c.loop-line.fresh c.loop-line.number c.loop-line.line-iterator c.next.new.self c.loop-line.invariant c.in-Some.line c.in-Some.ensures.steps in
    search (rules, countable c.args.text.now c.loop-line.words c.loop-line.fresh c.loop-line.number c.in-Some.line.now o.0 o.2)

pub loop-line-preserved : goal.loop-line-preserved
loop-line-preserved c =
    let o = one_line c.args.text.now c.loop-line.words c.loop-line.fresh c.loop-line.number c.loop-line.line-iterator c.next.new.self c.loop-line.invariant c.in-Some.line c.in-Some.ensures.steps in
    let n : suc c.loop-line.number ≡ c.loop-line.number + 1 = omega arith in
    (o.0, o.1, rw n at (added c.args.text.now c.loop-line.words c.loop-line.fresh c.loop-line.number c.in-Some.line.now o.0 o.2 c.add_line.new.words c.in-Ok.still c.in-Ok.ensures))

pub returns-in-Err : goal.returns-in-Err
returns-in-Err c =
    let o = one_line c.args.text.now c.loop-line.words c.loop-line.fresh c.loop-line.number c.loop-line.line-iterator c.next.new.self c.loop-line.invariant c.in-Some.line c.in-Some.ensures.steps in
    let n : suc c.loop-line.number ≡ c.loop-line.number + 1 = omega arith in
    let m = misfits c.args.text.now c.loop-line.words c.loop-line.fresh c.loop-line.number c.in-Some.line.now o.0 o.2 c.add_line.new.words c.in-Err.refusal c.in-Err.ensures in
    rw (m, n) refl

pub returns : goal.returns
returns c =
    let o = no_line c.args.text.now c.loop-line.words c.loop-line.fresh c.loop-line.number c.loop-line.line-iterator c.next.new.self c.loop-line.invariant c.in-None.ensures.steps in
    rw o.1 o.2
