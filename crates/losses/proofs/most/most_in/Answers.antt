use Rattle.std.proofs.Common.{rules, sym, ◌∙◌, length, ◌/◌}
use Rattle.lowest.specs.Entries.{read_entry}
use Rattle.lowest.specs.Table.{table}
use Rattle.losses.proofs.Lists.{chunks_read}
use Rattle.losses.proofs.Descent.{begins, read_sized, goes_on, ends}
use Rattle.losses.proofs.most.most_in.Goals as goal

pub loop-words-init : goal.loop-words-init
loop-words-init c =
    let rs = c.args.book.now.rules in
    let b = c.args.book.now.bound in
    let t = c.write_table-count.ensures in
    let us = c.write_table-count.new.words in
    let w = chunks_read read_entry 6 (table rs b) (length us / 6) us (search rules) t.stored in
    begins rs b c.args.row _ (rw (t.count, c.as_chunks.ensures.front) w) t.sized

pub most_on-requires-clause-sized : goal.most_on-requires-clause-sized
most_on-requires-clause-sized c = (read_sized c.loop-words.invariant _ (search rules) c.in-Some.entry (sym c.in-Some.is ∙ c.read_entry.ensures.entry)).0

pub most_on-requires-clause-some : goal.most_on-requires-clause-some
most_on-requires-clause-some c = (read_sized c.loop-words.invariant _ (search rules) c.in-Some.entry (sym c.in-Some.is ∙ c.read_entry.ensures.entry)).1

pub loop-words-preserved : goal.loop-words-preserved
loop-words-preserved c =
    goes_on c.loop-words.invariant _ (search rules) c.in-Some.entry (sym c.in-Some.is ∙ c.read_entry.ensures.entry) c.most_on.result c.most_on.ensures c.max-most.result (search rules)

pub returns-clause-most : goal.returns-clause-most
returns-clause-most c = ends c.loop-words.invariant (search rules)
