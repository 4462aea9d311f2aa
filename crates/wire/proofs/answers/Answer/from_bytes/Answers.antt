use Rattle.wire.proofs.AnswerLaws.{answers_read_back, only_answers_read, refusals_read}
use Rattle.wire.proofs.answers.Answer.from_bytes.Goals as goal

pub returns : goal.returns
returns c = record { answer = c.parse.ensures; back = answers_read_back; only = only_answers_read; known = refusals_read }
