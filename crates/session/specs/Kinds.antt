-- Whoever uses only some kinds of rules keeps every answer, whatever other kinds there are. A statement only: nothing is assumed.
use Rattle.std.specs.Prelude.{◌≡◌, ℕ, Bool, true, List, []}
use Rattle.raise.specs.Calls.{Call, Limits, number, answers}
use Rattle.raise.specs.Promise.{whole}
use Rattle.raise.specs.Kinds.{with_kinds, all_lay_only}
use Rattle.session.specs.Memory.{opening, open_words, told_words}

-- calls whose rules in range are all of these kinds: a book that can do just these answers them as one that can do all (the law
-- about kinds, from no rules on), and after an accepted opening on any words they are answered so
pub record KeepsAnswers (can : ℕ → Bool) : Type 0 where
  pub same : (l : Limits) (cs : List Call) → all_lay_only can cs ≡ true → answers (with_kinds can l) [] cs ≡ answers (with_kinds whole l) [] cs
  pub told : (ws : List ℕ) (l : Limits) (cs : List Call) → opening ws l ≡ number 0 → all_lay_only can cs ≡ true → told_words (open_words ws l) cs ≡ answers (with_kinds can l) [] cs
