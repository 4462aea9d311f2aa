-- What the code's answer to a call, or its refusal, says, and what a call comes to on a book. Nothing is assumed.
use Rattle.std.specs.Prelude.{◌≡◌, ℕ, ◌<◌, List, Ok, Err, Result}
use Rattle.raise.specs.Calls as calls
use Rattle.raise.specs.Calls.{Call, refused, turned, changed, told}
use Rattle.wire.specs.declared.answers.Refusal.{Refusal}
use Rattle.wire.specs.declared.answers.Answer.{Answer}
use Rattle.wire.specs.Meaning.{refusal_number, refusal_place, says}
use Rattle.book.specs.Held.{Book, with_rules}
use Rattle.session.specs.Memory.{limits}

abbrev pub says_or : Result Answer Refusal → calls.Answer
says_or (Ok a) = says a
says_or (Err e) = refused (refusal_number e) (refusal_place e)

-- an accepted call: what it is told, and the book after it
pub record Accepted (c : Call) (old new : Book) (a : calls.Answer) : Type 0 where
  pub admitted : turned (limits old) old.rules c ≡ 0
  pub says : a ≡ told (limits old) old.rules c
  pub leaves : new ≡ with_rules old (changed old.rules c)

-- a call that is turned away: why, and the same book
pub record TurnedAway (c : Call) (old new : Book) (a : calls.Answer) : Type 0 where
  pub barred : 0 < turned (limits old) old.rules c
  pub says : a ≡ refused (turned (limits old) old.rules c) (calls.place c (turned (limits old) old.rules c))
  pub leaves : new ≡ old

-- what a call comes to, by the code's answer or refusal
abbrev pub Answered : Call → Book → Book → Result Answer Refusal → Type 0
Answered c old new (Ok a) = Accepted c old new (says a)
Answered c old new (Err e) = TurnedAway c old new (refused (refusal_number e) (refusal_place e))

-- words are as they were, if a call was turned away
abbrev pub KeptIfRefused : Result Answer Refusal → List ℕ → List ℕ → Type 0
KeptIfRefused (Ok a) old new = Unit {0}
KeptIfRefused (Err e) old new = new ≡ old
