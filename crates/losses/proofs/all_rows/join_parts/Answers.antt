use Rattle.std.proofs.Common.{rules, ◌≡◌, ◌/◌, ◌≤◌, length, take}
use Rattle.lowest.specs.Entries.{read_entry}
use Rattle.lowest.specs.Table.{table}
use Rattle.std.specs.Simd.{first_chunks}
use Rattle.losses.proofs.Lists.{chunks_read}
use Rattle.losses.proofs.Walk.{begins, read_sized, passes, last_before, joins, parts, room, ends_count, ends_words, ends_fit}
use Rattle.losses.proofs.all_rows.join_parts.Goals as goal

pub loop-words-init : goal.loop-words-init
loop-words-init c =
    let rs = c.args.book.now.rules in
    let b = c.args.book.now.bound in
    let t = c.write_table-count.ensures in
    let z : c.into_iter-words-iterator.result.iter.rest.now ≡ take (length (table rs b)) c.as_chunks.result.0.now = search rules in
    let us = c.write_table-count.new.words in
    let k = length us / 6 in
    let f : c.as_chunks.result.0.now ≡ first_chunks 6 k us = search rules in
    let l : length (table rs b) ≤ k = search rules in
    let w = chunks_read read_entry 6 (table rs b) k us l t.stored in
    begins rs b c.args.rows.now _ (rw (z, f) w) t.sized

pub and_then-requires : goal.and_then-requires
and_then-requires c = read_sized c.loop-words.invariant c.next.new.self.iter.rest.now c.in-Some.words.now (search rules) c.read_entry.result c.read_entry.ensures.entry

pub loop-words-preserved-in_default : goal.loop-words-preserved-in_default
loop-words-preserved-in_default c = passes c.loop-words.invariant c.next.new.self.iter.rest.now c.in-Some.words.now (search rules) c.read_entry.result c.read_entry.ensures.entry (search rules)

pub joined-requires : goal.joined-requires
joined-requires c = last_before c.loop-words.invariant c.next.new.self.iter.rest.now c.in-Some.words.now (search rules) c.in-Some-and_then.part c.read_entry.result c.read_entry.ensures.entry (search rules)

pub end_row-written-requires : goal.end_row-written-requires
end_row-written-requires c = room c.loop-words.invariant (length c.loop-words.rows) (search rules)

pub loop-words-preserved-in-None-joined : goal.loop-words-preserved-in-None-joined
loop-words-preserved-in-None-joined c =
    parts c.loop-words.invariant c.next.new.self.iter.rest.now c.in-Some.words.now (search rules) c.in-Some-and_then.part c.read_entry.result c.read_entry.ensures.entry (search rules)
    c.end_row-written.result c.end_row-written.new.rows (search rules) c.end_row-written.ensures.count c.end_row-written.ensures.rows

pub loop-words-preserved : goal.loop-words-preserved
loop-words-preserved c =
    joins c.loop-words.invariant c.next.new.self.iter.rest.now c.in-Some.words.now (search rules) c.in-Some-and_then.part c.read_entry.result c.read_entry.ensures.entry (search rules)
    c.joined.result c.joined.ensures (search rules)

pub returns-clause-count : goal.returns-clause-count
returns-clause-count c = ends_count c.loop-words.invariant (search rules) c.end_row.result c.end_row.ensures.count

pub returns-clause-fits : goal.returns-clause-fits
returns-clause-fits c = ends_fit c.loop-words.invariant (search rules)

pub returns-clause-rows : goal.returns-clause-rows
returns-clause-rows c = ends_words c.loop-words.invariant (search rules) c.end_row.new.rows c.end_row.ensures.rows
