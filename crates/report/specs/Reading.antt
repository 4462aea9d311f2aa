-- A file of rules as text: the book that its lines make, or the first line that doesn't fit; and what is promised of a book that is
-- written as its lines. Nothing is assumed.
use Rattle.std.specs.Prelude.{◌≡◌, ℕ, suc, ◌≤◌, Bool, true, false, ◌||◌, List, [], ◌∷◌, ◌++◌, length, take, drop, codes, Ok, Err, Result, ◌==◌, nat_le}
use Rattle.std.specs.List.{flat_map}
use Rattle.std.specs.Str.{bytes_eq}
use Rattle.std.specs.Str.Lines.{lines}
use Rattle.raise.specs.Rules.{pick, Rule}
use Rattle.raise.specs.Calls.{Call, Limits, turned, changed}
use Rattle.raise.specs.Calls as calls
use Rattle.book.specs.Held.{all_fine}
use Rattle.text.specs.RuleLines.{Says, nothing, bounds, lays, unreadable, line_says, line_text, rule_text}
use Rattle.session.specs.Memory.{limited}

-- what was read so far: is it still before the bound and the first rule; the bound; and the rules
pub record Draft : Type 0 where
  pub fresh : Bool
  pub bound : ℕ
  pub rules : List Rule

-- at most 16 rules are served
abbrev pub limits : Draft → Limits
limits d = limited 16 d.bound

-- without a bound of its own a file is asked up to one below a billion, so that what is given or taken "on" holds at the bound, too
abbrev pub blank : Draft
blank = record { fresh = true; bound = 999999999; rules = [] }

abbrev pub with_bound : ℕ → Draft
with_bound n = record { fresh = false; bound = n; rules = [] }

abbrev pub with_rules : Draft → List Rule → Draft
with_rules d rs = record { fresh = false; bound = d.bound; rules = rs }

-- a rule is laid as a call would lay it, and refused by the same number
abbrev pub with_call : Draft → Call → Result Draft ℕ
with_call d c = pick (turned (limits d) d.rules c == 0) (Ok (with_rules d (changed d.rules c))) (Err (turned (limits d) d.rules c))

-- one line more, or the number of the refusal
abbrev pub with_line : Draft → Says → Result Draft ℕ
with_line d nothing = Ok d
with_line d (bounds n) = pick d.fresh (pick (nat_le n 1000000000) (Ok (with_bound n)) (Err 3)) (Err 1)
with_line d (lays r) = with_call d (calls.lays r)
with_line d unreadable = Err 1

-- a line that was refused: which it is, from 1 on, its bytes, and the number of the refusal
pub record Misfit : Type 0 where
  pub line : ℕ
  pub text : List ℕ
  pub number : ℕ

abbrev pub or_misfit : ℕ → List ℕ → (Draft → Result Draft Misfit) → Result Draft ℕ → Result Draft Misfit
or_misfit n l more (Ok d) = more d
or_misfit n l more (Err k) = Err (record { line = n; text = l; number = k })

-- a carriage return stands nowhere but before a newline: where it ended lines by itself, rules would be read as one comment
abbrev pub has_return : List ℕ → Bool
has_return [] = false
has_return (c ∷ cs) = c == 13 || has_return cs

abbrev pub says_of : List ℕ → Says
says_of line = pick (has_return line) unreadable (line_says line)

-- lines, of which the first is the n-th
unfoldable pub draft_from : ℕ → Draft → List (List ℕ) → Result Draft Misfit
draft_from n d [] = Ok d
draft_from n d (l ∷ ls) = or_misfit n l (λ e. draft_from (suc n) e ls) (with_line d (says_of l))

-- some editors put a mark before a text, which says nothing
abbrev pub mark : List ℕ
mark = 239 ∷ (187 ∷ (191 ∷ []))

abbrev pub without_mark : List ℕ → List ℕ
without_mark file = pick (bytes_eq (take 3 file) mark) (drop 3 file) file

-- of a whole file
abbrev pub draft : List ℕ → Result Draft Misfit
draft file = draft_from 1 blank (lines (without_mark file))

-- ---- what is promised

-- a line for each rule, in their order
abbrev pub rule_lines : List Rule → List ℕ
rule_lines rs = flat_map (λ r. rule_text r ++ codes "\n") rs

-- the text of a book: the line of its bound, and those of its rules
abbrev pub book_text : ℕ → List Rule → List ℕ
book_text b rs = line_text (bounds b) ++ (codes "\n" ++ rule_lines rs)

-- a book that is written as its lines, whole, reads as that book: its bound, and its rules in their order, none lost and none more;
-- and rules alone read as these rules, with the bound of a file that names none
pub record BooksReadBack : Type 0 where
  pub whole : (b : ℕ) (rs : List Rule) → b ≤ 1000000000 → length rs ≤ 16 → all_fine rs ≡ true → draft (book_text b rs) ≡ Ok (with_rules (with_bound b) rs)
  pub rules : (r : Rule) (rs : List Rule) → length (r ∷ rs) ≤ 16 → all_fine (r ∷ rs) ≡ true → draft (rule_lines (r ∷ rs)) ≡ Ok (with_rules blank (r ∷ rs))
  pub none : draft [] ≡ Ok blank
