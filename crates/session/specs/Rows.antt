-- All rows of a book, told by asking for one after the other. Definitions and statements only: nothing is assumed.
use Rattle.std.specs.Prelude.{◌≡◌, ℕ, suc, Bool, List, [], ◌∷◌, Some, None}
use Rattle.raise.specs.declared.LosingRow.{LosingRow}
use Rattle.raise.specs.Calls.{Call, Limits, next_row}
use Rattle.raise.specs.Rules.{Rule}
use Rattle.raise.specs.Promise.{Memory, Desk, GoodLimits, left_by, ran}
use Rattle.raise.specs.Rows.{LosingRows}
use Rattle.raise.specs.Told.{row_told}

-- asked from g on, and then from one past each row's last on, a desk tells just these rows, and then that there is none
unfoldable pub TellsRows : Desk → Memory → ℕ → List LosingRow → Type 0
TellsRows d m g [] = d.says m (next_row g) ≡ row_told None
TellsRows d m g (r ∷ rows) = (d.says m (next_row g) ≡ row_told (Some r)) × TellsRows d (d.next m (next_row g)) (suc r.last) rows

-- of all earnings up to a bound, the rows of those at which somebody loses by earning more, each from its first to its last, with
-- none between them and none left out
unfoldable pub TellsAllRows : Desk → Memory → List Rule → ℕ → Type 0
TellsAllRows d m rs b = (rows : List LosingRow) × LosingRows rs b rows × TellsRows d m 0 rows

-- so told after any list of calls, of the rules that the book then has, up to any bound within a billion
abbrev pub AllRows : (ℕ → Bool) → Desk → Type 0
AllRows can d = (l : Limits) (cs : List Call) → GoodLimits l → l.rules_can ≡ can → TellsAllRows d (left_by d (d.opened l) cs) (ran l [] cs) l.bound
