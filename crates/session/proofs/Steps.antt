-- One call, on the image of a good book with anything behind it.
use Rattle.std.proofs.Common.{◌≡◌, ℕ, ◌<◌, false, eqb, List, ◌++◌, drop, refl, ap, ◌∙◌, inl, inr, arith}
use Rattle.std.proofs.lemmas.List.{drop_at}
use Rattle.std.proofs.lemmas.Bool.{cases_Bool, ne_eqb}
use Rattle.raise.specs.Rules.{Rule}
use Rattle.raise.specs.Calls.{Call, Limits, turned, after, answer}
use Rattle.raise.specs.Promise.{ran}
use Rattle.book.specs.Held.{Book, Good, asked, image, with_rules}
use Rattle.book.proofs.Laws.{image_reads, image_long}
use Rattle.session.specs.Memory.{limits, says_in, next_in, says_words, next_words}

-- the book after a call, and after a list of calls
abbrev pub book_after : Book → Call → Book
book_after b c = with_rules b (after (limits b) b.rules c)

abbrev pub book_ran : Book → List Call → Book
book_ran b cs = with_rules b (ran (limits b) b.rules cs)

pub next_behind : (b : Book) (ys : List ℕ) (c : Call) → Good b → next_words (image b ++ ys) c ≡ image (book_after b c) ++ ys
next_behind b ys c g =
    let d : drop (asked b.limit) (image b ++ ys) ≡ ys = drop_at (image b) ys (asked b.limit) (image_long b g) in
    ap (next_in (image b ++ ys) c) (image_reads b ys g) ∙
    elim (cases_Bool (eqb (turned (limits b) b.rules c) 0)) [ inl t ↦ rw (t, d) refl | inr t ↦ rw t refl ]

pub says_behind : (b : Book) (ys : List ℕ) (c : Call) → Good b → says_words (image b ++ ys) c ≡ answer (limits b) b.rules c
says_behind b ys c g = ap (says_in c) (image_reads b ys g)

-- a call that is turned away leaves the rules
kept_rules : (l : Limits) (rs : List Rule) (c : Call) → 0 < turned l rs c → after l rs c ≡ rs
kept_rules l rs c h = let t : eqb (turned l rs c) 0 ≡ false = ne_eqb (turned l rs c) 0 (λ e. omega arith) in rw t refl

pub keeps_behind : (b : Book) (ys : List ℕ) (c : Call) → Good b → 0 < turned (limits b) b.rules c → next_words (image b ++ ys) c ≡ image b ++ ys
keeps_behind b ys c g h = next_behind b ys c g ∙ ap (λ (rs : List Rule). image (with_rules b rs) ++ ys) (kept_rules (limits b) b.rules c h)
