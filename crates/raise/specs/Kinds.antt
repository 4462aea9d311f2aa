-- Kinds of rules that a book can do, and calls that need no others. Definitions only: nothing is assumed.
use Rattle.std.specs.Prelude.{ℕ, Bool, true, not, ◌&&◌, ◌||◌, List, [], ◌∷◌}
use Rattle.raise.specs.Calls.{Call, Limits, lays, lifts, left_of, next_row, safe, garbled, rule_number, fine}

-- limits with these kinds in place of their own
abbrev pub with_kinds : (ℕ → Bool) → Limits → Limits
with_kinds can l = record { rules_can = can; rules = l.rules; bound = l.bound }

-- is a rule that a call asks to lay of one of these kinds; one out of range may be of any, since no book lays it
abbrev pub lays_only : (ℕ → Bool) → Call → Bool
lays_only can (lays r) = can (rule_number r) || not (fine r)
lays_only can (lifts i) = true
lays_only can (left_of g) = true
lays_only can (next_row g) = true
lays_only can (safe g) = true
lays_only can (garbled n) = true

unfoldable pub all_lay_only : (ℕ → Bool) → List Call → Bool
all_lay_only can [] = true
all_lay_only can (c ∷ cs) = lays_only can c && all_lay_only can cs
