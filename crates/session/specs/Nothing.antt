-- Books without rules: what is answered, in plain words. Definitions and statements only: nothing is assumed.
use Rattle.std.specs.Prelude.{◌≡◌, ℕ, ◌+◌, ◌*◌, Bool, false, List, [], map, nat_le, nat_lt}
use Rattle.raise.specs.Rules.{pick}
use Rattle.raise.specs.Calls.{Call, Answer, lays, lifts, left_of, next_row, safe, garbled, refused, number, two, answers}

abbrev pub in_bound : ℕ → ℕ → Answer → Answer
in_bound b g a = pick (nat_le g b) a (refused 2 0)

-- what is answered up to a bound where no rule is laid, in plain words: there is none to lift; all that is earned is left;
-- nobody loses; the next unit is safe, unless it lies above the bound
abbrev pub plain : ℕ → Call → Answer
plain b (lays r) = refused 2 0
plain b (lifts i) = refused 4 0
plain b (left_of g) = in_bound b g (two (10000 * g) 0)
plain b (next_row g) = in_bound b g (two 0 0)
plain b (safe g) = in_bound b g (number (pick (nat_lt g b) (g + 2) 0))
plain b (garbled n) = refused 1 n

-- a book that can do no kind of rule answers just that, to every list of calls
abbrev pub no_kinds : ℕ → Bool
no_kinds k = false

abbrev pub Plain : Type 0
Plain = (n b : ℕ) (cs : List Call) → answers (record { rules_can = no_kinds; rules = n; bound = b }) [] cs ≡ map (plain b) cs
