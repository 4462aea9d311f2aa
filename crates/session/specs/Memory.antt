-- What open and call make of lent words, whatever the words are; the desk made of these; and what an opening promises of whole
-- sessions. Definitions and statements only: nothing is assumed.
use Rattle.std.specs.Prelude.{◌≡◌, ℕ, ◌+◌, ◌*◌, ◌<◌, ◌≤◌, Bool, false, List, [], ◌∷◌, ◌++◌, length, drop, replicate, Some, None, Ok, Err, Option, Result, ◌==◌, nat_lt}
use Rattle.raise.specs.Rules.{pick}
use Rattle.raise.specs.Calls.{Call, Answer, Limits, lays, lifts, left_of, next_row, safe, garbled, refused, number, two, turned, changed, answer, answers}
use Rattle.raise.specs.Promise.{Desk, ran, whole}
use Rattle.session.specs.Rows.{TellsAllRows}
use Rattle.session.specs.Safe.{TellsSafe}
use Rattle.wire.specs.declared.answers.Refusal.{Refusal}
use Rattle.wire.specs.Meaning.{refusal_number, refusal_place}
use Rattle.book.specs.Held.{Book, asked, image, book_of, rewritten}

-- all kinds of rules can be done
abbrev pub limited : ℕ → ℕ → Limits
limited rules bound = record { rules_can = whole; rules = rules; bound = bound }

-- ---- open

-- an opening that is accepted counts as the number 0
abbrev pub said_open : Result (Unit {0}) Refusal → Answer
said_open (Ok u) = number 0
said_open (Err e) = refused (refusal_number e) (refusal_place e)

-- more than 64 rules, a bound above 1,000,000,000, or memory smaller than is asked for: 3, at 0, 1 and 2
abbrev pub opening : List ℕ → Limits → Answer
opening ws l = pick (nat_lt 64 l.rules) (refused 3 0) (pick (nat_lt 1000000000 l.bound) (refused 3 1) (pick (nat_lt (length ws) (asked l.rules)) (refused 3 2) (number 0)))

-- the book that is opened
abbrev pub empty : Limits → Book
empty l = record { limit = l.rules; bound = l.bound; rules = [] }

abbrev pub unless_refused : Answer → List ℕ → List ℕ → List ℕ
unless_refused (refused k n) new old = old
unless_refused (number n) new old = new
unless_refused (two m n) new old = new

-- the words after open: the opened book, and the words behind it as they were; all as they were after a refusal
abbrev pub open_words : List ℕ → Limits → List ℕ
open_words ws l = unless_refused (opening ws l) (image (empty l) ++ drop (asked l.rules) ws) ws

-- ---- call

abbrev pub limits : Book → Limits
limits b = limited b.limit b.bound

-- words that hold no opened book, or fewer words than it asks for: 3 at 2, unless the call can't be read
abbrev pub without_book : Call → Answer
without_book (lays r) = refused 3 2
without_book (lifts i) = refused 3 2
without_book (left_of g) = refused 3 2
without_book (next_row g) = refused 3 2
without_book (safe g) = refused 3 2
without_book (garbled n) = refused 1 n

abbrev pub says_in : Call → Option Book → Answer
says_in c None = without_book c
says_in c (Some b) = answer (limits b) b.rules c

-- an accepted call leaves the book after it, whole, and the words behind it as they were
abbrev pub next_in : List ℕ → Call → Option Book → List ℕ
next_in ws c None = ws
next_in ws c (Some b) = pick (turned (limits b) b.rules c == 0) (rewritten ws b (changed b.rules c)) ws

-- the answer to a call, and the words after it, for any words
abbrev pub says_words : List ℕ → Call → Answer
says_words ws c = says_in c (book_of ws)

abbrev pub next_words : List ℕ → Call → List ℕ
next_words ws c = next_in ws c (book_of ws)

-- ---- the desk of the main promise, of nothing but these

-- opened in as many words as are asked for
abbrev pub opened_words : Limits → List ℕ
opened_words l = open_words (replicate (asked l.rules) 0) l

abbrev pub desk : Desk
desk = record { opened = λ l. record { words = opened_words l }; next = λ m c. record { words = next_words m.words c }; says = λ m c. says_words m.words c }

-- ---- whole sessions on any lent words

unfoldable pub told_words : List ℕ → List Call → List Answer
told_words ws [] = []
told_words ws (c ∷ cs) = says_words ws c ∷ told_words (next_words ws c) cs

unfoldable pub left_words : List ℕ → List Call → List ℕ
left_words ws [] = ws
left_words ws (c ∷ cs) = left_words (next_words ws c) cs

-- is an answer the refusal 3
abbrev pub is_three : Answer → Bool
is_three (refused k n) = k == 3
is_three (number n) = false
is_three (two m n) = false

-- what an accepted opening makes of any words: from then on, for every list of calls, the answers are those of the written book;
-- all rows are told, and from where on each earning is safe; 3 never comes; a call that is turned away changes no word; and the
-- words behind those asked for stay as they were before
pub record Serves (l : Limits) (before opened : List ℕ) : Type 0 where
  pub right : (cs : List Call) → told_words opened cs ≡ answers l [] cs
  pub rows : (cs : List Call) → TellsAllRows desk (record { words = left_words opened cs }) (ran l [] cs) l.bound
  pub safe : (cs : List Call) → TellsSafe desk (record { words = left_words opened cs }) (ran l [] cs) l.bound
  pub no_three : (cs : List Call) (c : Call) → is_three (says_words (left_words opened cs) c) ≡ false
  pub keeps : (cs : List Call) (c : Call) → 0 < turned l (ran l [] cs) c → next_words (left_words opened cs) c ≡ left_words opened cs
  pub behind : (cs : List Call) → drop (asked l.rules) (left_words opened cs) ≡ drop (asked l.rules) before

-- an opening, by its answer: one that was accepted serves, one that was refused has changed nothing
abbrev pub Opened : Limits → Answer → List ℕ → List ℕ → Type 0
Opened l (refused k n) before opened = opened ≡ before
Opened l (number n) before opened = Serves l before opened
Opened l (two m n) before opened = Serves l before opened

-- 64 words a rule and 256 more are always enough to open a book within limits
abbrev pub Suffices : Limits → List ℕ → Answer → Type 0
Suffices l ws a = l.rules ≤ 64 → l.bound ≤ 1000000000 → 64 * l.rules + 256 ≤ length ws → a ≡ number 0
