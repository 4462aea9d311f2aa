use Rattle.std.proofs.Common.{rules, arith}
use Rattle.raise.specs.Rows.{losing_rows}
use Rattle.losses.proofs.Firsts.{all_read}
use Rattle.report.proofs.Told.{some_rows}
use Rattle.report.proofs.rows.write_row_lines.Goals as goal

pub returns : goal.returns
returns c =
    let rows = losing_rows c.args.book.now.rules c.args.book.now.bound in
    let e = all_read c.write_rows-count.new.rows c.write_rows-count.result c.as_chunks.result.0.now rows (search rules) (search rules) c.write_rows-count.ensures.count c.write_rows-count.ensures.stored in
    let t = some_rows c.args.book.now.rules c.args.book.now.bound c.write_rows-count.result rows c.write_rows-count.ensures.count (omega arith) in
    rw t at (c.write_each.ensures rows e)
