-- Kinds that no call uses change no answer, over whole sessions.
use Rattle.std.proofs.Common.{ℕ, Bool, [], sym, ◌∙◌}
use Rattle.raise.proofs.OtherKinds.{others_unused}
use Rattle.session.specs.Kinds.{KeepsAnswers}
use Rattle.session.proofs.Runs.{told_opened}

pub keeps_answers : (can : ℕ → Bool) → KeepsAnswers can
keeps_answers can = record {
  same = λ l cs only. others_unused can l [] cs only;
  told = λ ws l cs opens only. told_opened ws l cs opens ∙ sym (others_unused can l [] cs only);
}
