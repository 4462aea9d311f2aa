-- A book of rules, what can be asked of it, and what it answers. Definitions only: nothing is assumed.
--
-- A book is a list of rules, numbered from 0 in the order in which they were laid. A call either is turned away, by a
-- number that says why and a place, and then it has changed nothing; or it is answered by a number or by two.
use Rattle.std.specs.Prelude.{ℕ, zero, suc, ◌-◌, Bool, ◌&&◌, List, [], ◌∷◌, ◌++◌, length, take, drop, ◌==◌, nat_le, nat_lt}
use Rattle.raise.specs.Rules.{pick, Rule, takes, gives, takes_sum, gives_sum, fades, all_plus, all_minus, first_losing, first_not, safe_from}

pub data Call : Type 0 where
  lays : Rule → Call  -- a rule comes into the book, as its last
  lifts : ℕ → Call  -- the i-th rule goes; those after it have each one number less
  left_of : ℕ → Call  -- what comes in and what goes out, for an earning
  next_row : ℕ → Call  -- the first row of earnings that lose, from an earning on
  safe : ℕ → Call  -- from where on an earning is safe
  garbled : ℕ → Call  -- bytes that are no call, and the place of the first that doesn't fit

pub data Answer : Type 0 where
  refused : ℕ → ℕ → Answer  -- why, and the place
  number : ℕ → Answer
  two : ℕ → ℕ → Answer

-- how many rules a book may hold, up to what earning it is asked, and which kinds of rules the program can do
pub record Limits : Type 0 where
  pub rules_can : ℕ → Bool
  pub rules : ℕ
  pub bound : ℕ

-- the number of a rule's kind
unfoldable pub rule_number : Rule → ℕ
rule_number (takes a b r) = 0
rule_number (gives a b r) = 1
rule_number (takes_sum a b s) = 2
rule_number (gives_sum a b s) = 3
rule_number (fades a r s) = 4

-- is a rule in range: borders at most 1,000,000,000 and in order, a rate at most 20,000, a sum at most 100,000,000
unfoldable pub fine : Rule → Bool
fine (takes a b r) = nat_lt a b && (nat_le b 1000000000 && nat_le r 20000)
fine (gives a b r) = nat_lt a b && (nat_le b 1000000000 && nat_le r 20000)
fine (takes_sum a b s) = nat_lt a b && (nat_le b 1000000000 && nat_le s 100000000)
fine (gives_sum a b s) = nat_lt a b && (nat_le b 1000000000 && nat_le s 100000000)
fine (fades a r s) = nat_le a 1000000000 && (nat_le r 20000 && nat_le s 100000000)

-- ---- refusals

-- why a call is turned away, or 0 if it is not
-- 1: it can't be read; 2: a rule out of range or of a kind that can't be done, or an earning above the bound;
-- 4: a rule that is not there; 5: more rules than the limit. (3 is for limits and memory that can't serve: the written book,
-- which needs no memory, has no such call.)
unfoldable pub turned : Limits → List Rule → Call → ℕ
turned l rs (lays r) = pick (l.rules_can (rule_number r) && fine r) (pick (nat_lt (length rs) l.rules) 0 5) 2
turned l rs (lifts i) = pick (nat_lt i (length rs)) 0 4
turned l rs (left_of g) = pick (nat_le g l.bound) 0 2
turned l rs (next_row g) = pick (nat_le g l.bound) 0 2
turned l rs (safe g) = pick (nat_le g l.bound) 0 2
turned l rs (garbled n) = 1

-- the place that goes with a refusal: the byte that doesn't fit, and else 0
unfoldable pub place : Call → ℕ → ℕ
place (garbled n) k = n
place (lays r) k = 0
place (lifts i) k = 0
place (left_of g) k = 0
place (next_row g) k = 0
place (safe g) k = 0

-- ---- what a call changes

-- the rules after a call that was not turned away
unfoldable pub changed : List Rule → Call → List Rule
changed rs (lays r) = rs ++ (r ∷ [])
changed rs (lifts i) = take i rs ++ drop (suc i) rs
changed rs (left_of g) = rs
changed rs (next_row g) = rs
changed rs (safe g) = rs
changed rs (garbled n) = rs

-- the rules after any call
abbrev pub after : Limits → List Rule → Call → List Rule
after l rs c = pick (turned l rs c == 0) (changed rs c) rs

-- ---- answers

-- the row of earnings that lose whose first is g, given as suc g: one more than its first, and one more than its last; 0 and 0
-- where 0 is given, that is, where there is no row
unfoldable pub row_from : Limits → List Rule → ℕ → Answer
row_from l rs zero = two 0 0
row_from l rs (suc g) = two (suc g) (pick (first_not rs l.bound g == 0) (suc l.bound) (first_not rs l.bound g - 1))

-- the answer to a call that was not turned away
unfoldable pub told : Limits → List Rule → Call → Answer
told l rs (lays r) = number (length rs)
told l rs (lifts i) = number i
told l rs (left_of g) = two (all_plus rs g) (all_minus rs g)
told l rs (next_row g) = row_from l rs (first_losing rs l.bound g)
told l rs (safe g) = number (safe_from rs l.bound g)
told l rs (garbled n) = number 0

-- the answer to any call
abbrev pub answer : Limits → List Rule → Call → Answer
answer l rs c = pick (turned l rs c == 0) (told l rs c) (refused (turned l rs c) (place c (turned l rs c)))

-- the answers to a list of calls, one after the other: the written book
unfoldable pub answers : Limits → List Rule → List Call → List Answer
answers l rs [] = []
answers l rs (c ∷ cs) = answer l rs c ∷ answers l (after l rs c) cs
