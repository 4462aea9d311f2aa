-- What the code's rules, calls and answers stand for, and the number and values of each of their cases. Nothing is assumed.
use Rattle.std.specs.Prelude.{◌≡◌, ℕ, ◌<◌, Some, None, Ok, Err, Option, Result, MatchResult}
use Rattle.raise.specs.Rules as rules
use Rattle.raise.specs.Rules.{takes, gives, takes_sum, gives_sum, fades}
use Rattle.raise.specs.Calls as calls
use Rattle.raise.specs.Calls.{lays, lifts, left_of, next_row, safe, garbled, refused, number, two}
use Rattle.wire.specs.declared.calls.Rule.{Rule}
use Rattle.wire.specs.declared.calls.Rule.TheVariants.{Take, Give, TakeSum, GiveSum, Fade}
use Rattle.wire.specs.declared.kinds.RuleKind.{RuleKind}
use Rattle.wire.specs.declared.kinds.RuleKind.TheVariants as kinds
use Rattle.wire.specs.declared.kinds.UnknownKind.{UnknownKind}
use Rattle.wire.specs.declared.calls.Call.{Call}
use Rattle.wire.specs.declared.calls.Call.TheVariants.{Lay, Lift, Left, Row, Safe}
use Rattle.wire.specs.declared.calls.Garbled.{Garbled}
use Rattle.wire.specs.declared.answers.Refusal.{Refusal}
use Rattle.wire.specs.declared.answers.Refusal.TheVariants.{Unreadable, OutOfRange, TooManyRules, BoundTooHigh, MemoryTooSmall, NoSuchRule, BookFull}
use Rattle.wire.specs.declared.answers.Answer.{Answer}
use Rattle.wire.specs.declared.answers.Answer.TheVariants.{Refused, Number, Two}

abbrev pub meant : Rule → rules.Rule
meant (Take a b r) = takes a b r
meant (Give a b r) = gives a b r
meant (TakeSum a b s) = takes_sum a b s
meant (GiveSum a b s) = gives_sum a b s
meant (Fade a r s) = fades a r s

-- the number that stands for a kind of rule
abbrev pub kind_number : RuleKind → ℕ
kind_number kinds.Take = 0
kind_number kinds.Give = 1
kind_number kinds.TakeSum = 2
kind_number kinds.GiveSum = 3
kind_number kinds.Fade = 4

-- the kind that a number stands for, or an error where it stands for none
abbrev pub ReadsKind : ℕ → Result RuleKind UnknownKind → Type 0
ReadsKind n r = MatchResult r (λ kind. kind_number kind ≡ n) (λ e. (e.0 ≡ n) × (4 < n))

abbrev pub asks : Call → calls.Call
asks (Lay r) = lays (meant r)
asks (Lift i) = lifts i
asks (Left g) = left_of g
asks (Row g) = next_row g
asks (Safe g) = safe g

-- a rule that was read, or the place where the bytes cease to be one
abbrev pub meant_or : Result Rule Garbled → Result rules.Rule ℕ
meant_or (Ok r) = Ok (meant r)
meant_or (Err e) = Err e.place

-- a field that was read, or the place where the bytes end too early or too late
abbrev pub field_or : Result ℕ Garbled → Result ℕ ℕ
field_or (Ok n) = Ok n
field_or (Err e) = Err e.place

-- a call that was read, or bytes that are none
abbrev pub asks_or : Result Call Garbled → calls.Call
asks_or (Ok c) = asks c
asks_or (Err e) = garbled e.place

-- why a call was turned away: the number of each refusal
abbrev pub refusal_number : Refusal → ℕ
refusal_number (Unreadable n) = 1
refusal_number OutOfRange = 2
refusal_number TooManyRules = 3
refusal_number BoundTooHigh = 3
refusal_number MemoryTooSmall = 3
refusal_number NoSuchRule = 4
refusal_number BookFull = 5

-- and its place: the byte that doesn't fit; for limits and memory, which of the three checks failed; else 0
abbrev pub refusal_place : Refusal → ℕ
refusal_place (Unreadable n) = n
refusal_place OutOfRange = 0
refusal_place TooManyRules = 0
refusal_place BoundTooHigh = 1
refusal_place MemoryTooSmall = 2
refusal_place NoSuchRule = 0
refusal_place BookFull = 0

abbrev pub says : Answer → calls.Answer
says (Refused e) = refused (refusal_number e) (refusal_place e)
says (Number n) = number n
says (Two m n) = two m n

abbrev pub says_if : Option Answer → Option calls.Answer
says_if None = None
says_if (Some a) = Some (says a)
