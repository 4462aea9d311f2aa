-- From where on an earning is safe, as it is told. Definitions and statements only: nothing is assumed.
use Rattle.std.specs.Prelude.{◌≡◌, ℕ, ◌≤◌, Bool, List, []}
use Rattle.raise.specs.Calls.{Call, Limits, safe, number}
use Rattle.raise.specs.Rules.{Rule}
use Rattle.raise.specs.Promise.{Memory, Desk, GoodLimits, left_by, ran}
use Rattle.raise.specs.Laws.{SafeTold}

-- for each earning up to the bound a desk tells the smallest larger one from which on, up to the bound, at least as much is left as
-- of it; and that there is none, just where there is none
unfoldable pub TellsSafe : Desk → Memory → List Rule → ℕ → Type 0
TellsSafe d m rs b = (g : ℕ) → g ≤ b → (n : ℕ) × (d.says m (safe g) ≡ number n) × SafeTold rs b g n

-- so told after any list of calls, of the rules that the book then has, up to any bound within a billion
abbrev pub AllSafe : (ℕ → Bool) → Desk → Type 0
AllSafe can d = (l : Limits) (cs : List Call) → GoodLimits l → l.rules_can ≡ can → TellsSafe d (left_by d (d.opened l) cs) (ran l [] cs) l.bound
