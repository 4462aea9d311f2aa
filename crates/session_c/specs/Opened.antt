-- What an opening's two numbers say. A definition only: nothing is assumed.
use Rattle.std.specs.Prelude.{ℕ, zero, suc}
use Rattle.raise.specs.Calls.{Answer, number, refused}
use Rattle.session_c.specs.declared.Opened.{Opened}

abbrev pub by_number : ℕ → ℕ → Answer
by_number zero n = number n
by_number (suc k) n = refused (suc k) n

-- an opening that is accepted counts as the number 0; a refusal has a number that is not 0
abbrev pub said : Opened → Answer
said o = by_number o.number o.place
