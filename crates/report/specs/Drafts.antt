-- Drafts in words, and what the code makes of them. Definitions only: nothing is assumed.
use Rattle.std.specs.Prelude.{◌≡◌, ℕ, Bool, true, List, Option, Some, None, Ok, Err, Result, string_bytes}
use Rattle.std.specs.Borrow.{Bor}
use Rattle.raise.specs.Calls as calls
use Rattle.wire.specs.declared.calls.Rule.{Rule}
use Rattle.wire.specs.declared.answers.Refusal.{Refusal}
use Rattle.wire.specs.Meaning.{meant, refusal_number}
use Rattle.book.specs.Held.{Book, book_of}
use Rattle.text.specs.RuleLines.{Says, bounds}
use Rattle.report.specs.declared.reading.Misfit as declared
use Rattle.report.specs.declared.Outcome.{Outcome}
use Rattle.report.specs.declared.Outcome.TheVariants.{Told, Refused}
use Rattle.report.specs.Reading.{Draft, Misfit, with_line, with_call}

-- the book that is made of a draft
abbrev pub book : Draft → Book
book d = record { limit = 16; bound = d.bound; rules = d.rules }

-- words that hold a draft's book
abbrev pub Holds : List ℕ → Draft → Type 0
Holds ws d = book_of ws ≡ Some (book d)

-- what an attempt comes to: the words hold the draft, or the refusal's number
abbrev pub Comes : Result Draft ℕ → List ℕ → Result Bool Refusal → Type 0
Comes (Ok d) ws (Ok fresh) = Holds ws d × (fresh ≡ d.fresh)
Comes (Ok d) ws (Err e) = ⊥
Comes (Err k) ws (Ok fresh) = ⊥
Comes (Err k) ws (Err e) = refusal_number e ≡ k

-- a rule laid: in the words old, and what is in new
abbrev pub Laid : List ℕ → List ℕ → Rule → Result Bool Refusal → Type 0
Laid old new rule result = (d : Draft) → Holds old d → Comes (with_call d (calls.lays (meant rule))) new result

-- a bound, where one may still come
abbrev pub Bounded : List ℕ → List ℕ → ℕ → Result Bool Refusal → Type 0
Bounded old new n result = (d : Draft) → Holds old d → d.fresh ≡ true → Comes (with_line d (bounds n)) new result

-- a line more, by what it says
abbrev pub Added : List ℕ → List ℕ → Bool → Says → Result Bool Refusal → Type 0
Added old new fresh says result = (d : Draft) → Holds old d → fresh ≡ d.fresh → Comes (with_line d says) new result

-- what the code's value says of a line that was refused
abbrev pub misfit : declared.Misfit → Misfit
misfit m = record { line = m.line; text = m.text.now; number = refusal_number m.refusal }

-- what the lines of a file come to: the words hold the draft, or the first line that doesn't fit
abbrev pub Drafted : Result Draft Misfit → List ℕ → Result (Unit {0}) declared.Misfit → Type 0
Drafted (Ok d) ws (Ok u) = Holds ws d
Drafted (Ok d) ws (Err m) = ⊥
Drafted (Err e) ws (Ok u) = ⊥
Drafted (Err e) ws (Err m) = misfit m ≡ e

-- what the file comes to: the draft's book, or that line
abbrev pub Filed : Result Draft Misfit → Result Book declared.Misfit → Type 0
Filed (Ok d) (Ok b) = b ≡ book d
Filed (Ok d) (Err m) = ⊥
Filed (Err e) (Ok b) = ⊥
Filed (Err e) (Err m) = misfit m ≡ e

-- what is told, or why nothing is
abbrev pub printed : Outcome → Result (List ℕ) (List ℕ)
printed (Told text) = Ok (string_bytes text)
printed (Refused message) = Err (string_bytes message)

-- what is borrowed, if anything is
abbrev pub shown_if : Option (Bor (List ℕ)) → Option (List ℕ)
shown_if None = None
shown_if (Some x) = Some x.now
