-- What the code's answers stand for: an earning as one more than it, and 0 where there is none; a row as its first and its last so.
-- Definitions only: nothing is assumed.
use Rattle.std.specs.Prelude.{ℕ, suc, Some, None, Option}
use Rattle.raise.specs.declared.LosingRow.{LosingRow}
use Rattle.raise.specs.Calls.{Answer, two}

abbrev pub gross_told : Option ℕ → ℕ
gross_told None = 0
gross_told (Some g) = suc g

abbrev pub row_told : Option LosingRow → Answer
row_told None = two 0 0
row_told (Some r) = two (suc r.first) (suc r.last)
