use Rattle.std.proofs.Common.{rules, refl}
use Rattle.losses.proofs.Firsts.{all_read, readable, is_first, not_first, none_first}
use Rattle.losses.proofs.one_row.first_from.Goals as goal

pub loop-words-init : goal.loop-words-init
loop-words-init c = λ rows e. refl

pub returns-in_err-read_row : goal.returns-in_err-read_row
returns-in_err-read_row c = λ rows n s.
    let e = all_read c.args.words.now c.args.count c.as_chunks.result.0.now rows c.requires (search rules) n s in
    absurd (readable _ c.loop-words.words-index c.args.gross c.loop-words.invariant _ (search rules) rows e c.in_err-read_row.ensures.row)

pub returns-then-is_some : goal.returns-then-is_some
returns-then-is_some c = λ rows n s.
    let e = all_read c.args.words.now c.args.count c.as_chunks.result.0.now rows c.requires (search rules) n s in
    is_first _ c.loop-words.words-index c.args.gross c.loop-words.invariant _ (search rules) rows e c.in_ok-read_row.field-0 c.in_ok-read_row.ensures.row c.rest_from-row.result c.rest_from-row.ensures (search rules)

pub loop-words-preserved : goal.loop-words-preserved
loop-words-preserved c = λ rows e.
    not_first _ c.loop-words.words-index c.args.gross c.loop-words.invariant _ (search rules) rows e c.in_ok-read_row.field-0 c.in_ok-read_row.ensures.row c.rest_from-row.result c.rest_from-row.ensures (search rules)

pub returns : goal.returns
returns c = λ rows n s.
    let e = all_read c.args.words.now c.args.count c.as_chunks.result.0.now rows c.requires (search rules) n s in
    none_first _ c.loop-words.words-index c.args.gross rows c.loop-words.invariant e (search rules)
