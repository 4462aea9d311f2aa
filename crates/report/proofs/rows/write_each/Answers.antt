use Rattle.std.proofs.Common.{sym, ◌∙◌}
use Rattle.report.specs.Report.{losing_row_line}
use Rattle.report.proofs.Told.{held, next_row, one_more}
use Rattle.report.proofs.rows.write_each.Goals as goal

pub loop-words-preserved-in_default : goal.loop-words-preserved-in_default
loop-words-preserved-in_default c = (c.loop-words.invariant.0, λ rows e. absurd (held c.args.rows.now rows e c.loop-words.words-index _ c.loop-words-test.true c.read_row.result c.read_row.ensures.row c.in_default.is))

pub loop-words-preserved : goal.loop-words-preserved
loop-words-preserved c =
    let line = losing_row_line c.args.book.now.rules c.args.book.now.bound in (
      c.in_ok-write_row.ensures.room ∙ c.loop-words.invariant.0,
      λ rows e.
          one_more _ _ (line c.in-Some.row) _ _ _ (c.loop-words.invariant.1 rows e) (next_row c.args.rows.now rows e c.loop-words.words-index _ c.loop-words-test.true c.in-Some.row (sym c.in-Some.is ∙ c.read_row.ensures.row) line) c.in_ok-write_row.ensures.line,
    )
