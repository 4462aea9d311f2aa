use Rattle.std.proofs.Common.{rules, ◌≡◌}
use Rattle.wire.specs.Meaning.{asks}
use Rattle.wire.specs.CallBytes.{call_of}
use Rattle.session.proofs.Scratch.{written_over}
use Rattle.session.proofs.replies.reply.Goals as goal

pub returns-clause-words : goal.returns-clause-words
returns-clause-words c =
    let q : call_of c.args.bytes.now ≡ asks c.in_ok-call.call = search rules in
    rw q
    (written_over c.args.words.now c.answer_to.new.scratch c.write_book.new.words c.scratch.result.start c.scratch.result.end c.in-Some.book c.answer_to.new.book _ _
    (search rules) c.in_ok-answer.ensures.answered (search rules) (search rules) (search rules) (search rules) c.write_book.ensures)
