use Rattle.std.proofs.Common.{◌≡◌, ◌++◌, string_bytes}
use Rattle.wire.specs.Files.{calls_left}
use Rattle.answer.specs.Transcript.{lines_for}
use Rattle.answer.proofs.transcript.answer_calls.Given as goal

abbrev pub invariant-loop-bytes : goal.invariant-loop-bytes
invariant-loop-bytes l =
    string_bytes l.out ++ lines_for l.words (calls_left l.bytes-iterator) ≡ string_bytes l.initial.out ++ lines_for l.initial.words (calls_left l.initial.bytes-iterator)
