-- Answers as text: the line that tells the answer to a call; and what is told of a row and of an earning. Definitions only: nothing
-- is assumed.
--
-- A number is written in decimal. In answers a row and a safe earning come as one more than they are, and 0 where there is none.
use Rattle.std.specs.Prelude.{◌≡◌, ℕ, ◌+◌, ◌-◌, ◌/◌, ◌%◌, ◌<◌, List, ◌++◌, Option, None, Some, codes, decimal, ◌==◌, nat_lt}
use Rattle.raise.specs.Rules.{pick}
use Rattle.raise.specs.Calls.{Call, lays, lifts, left_of, next_row, safe, garbled, Answer, refused, number, two}
use Rattle.text.specs.declared.prospects.Outlook.{Outlook}
use Rattle.text.specs.declared.prospects.Outlook.TheVariants.{NeverLoses, Loses}

-- ten-thousandths, as units and four places after the point
abbrev pub parted : ℕ → List ℕ
parted n = decimal (n / 10000) ++ (codes "." ++ (decimal (n / 1000 % 10) ++ (decimal (n / 100 % 10) ++ (decimal (n / 10 % 10) ++ decimal (n % 10)))))

-- what comes in less what goes out
abbrev pub amount : ℕ → ℕ → List ℕ
amount i o = pick (nat_lt i o) (codes "-" ++ parted (o - i)) (parted (i - o))

-- the text of a value, or "none"
abbrev pub or_none : {A : Type 0} → (A → Option (List ℕ)) → Option A → Option (List ℕ)
or_none text None = Some (codes "none")
or_none text (Some x) = text x

-- a row from its first to its last earning
abbrev pub row_text : ℕ → ℕ → List ℕ
row_text first last = decimal first ++ (codes " to " ++ decimal last)

-- the earning from which on it is safe
abbrev pub safe_text : ℕ → List ℕ
safe_text earning = codes "safe from " ++ decimal earning

abbrev pub row_line : ℕ → ℕ → List ℕ
row_line m n = pick (m == 0) (codes "none") (row_text (m - 1) (n - 1))

abbrev pub safe_line : ℕ → List ℕ
safe_line n = pick (n == 0) (codes "none") (safe_text (n - 1))

abbrev pub rule_line : ℕ → List ℕ
rule_line n = codes "rule " ++ decimal n

abbrev pub refusal_line : ℕ → ℕ → List ℕ
refusal_line k n = codes "refused " ++ (decimal k ++ (codes " at " ++ decimal n))

-- an answer of one number: where earnings are safe, and else the number of a rule
abbrev pub number_line : Call → ℕ → List ℕ
number_line (lays r) n = rule_line n
number_line (lifts i) n = rule_line n
number_line (left_of g) n = rule_line n
number_line (next_row g) n = rule_line n
number_line (safe g) n = safe_line n
number_line (garbled k) n = rule_line n

-- an answer of two numbers: a row, and else what comes in and what goes out
abbrev pub two_line : Call → ℕ → ℕ → List ℕ
two_line (lays r) m n = amount m n
two_line (lifts i) m n = amount m n
two_line (left_of g) m n = amount m n
two_line (next_row g) m n = row_line m n
two_line (safe g) m n = amount m n
two_line (garbled k) m n = amount m n

abbrev pub line : Call → Answer → List ℕ
line c (refused k n) = refusal_line k n
line c (number n) = number_line c n
line c (two m n) = two_line c m n

-- what is shown tells the amount: two that are shown alike leave the same
abbrev pub AmountsDiffer : Type 0
AmountsDiffer =
    (i o j p : ℕ) → i < 18446744073709551616 → o < 18446744073709551616 → j < 18446744073709551616 → p < 18446744073709551616 →
    amount i o ≡ amount j p → i + p ≡ j + o

-- ---- rows and earnings

-- a row, and the most that is lost in it
abbrev pub losing_row : ℕ → ℕ → ℕ → List ℕ
losing_row first last most = row_text first last ++ (codes ", up to " ++ (parted most ++ codes " less"))

-- from where on an earning that loses is safe, if from anywhere
abbrev pub safe_or_never : Option ℕ → List ℕ
safe_or_never None = codes "never safe"
safe_or_never (Some earning) = safe_text earning

-- what more would do, and from where on an earning that loses is safe
abbrev pub outlook_text : Outlook → List ℕ
outlook_text NeverLoses = codes "never loses by earning more"
outlook_text (Loses earning) = codes "loses by earning more, " ++ safe_or_never earning

-- an earning: what is left of it, and what more would do
abbrev pub prospect : ℕ → List ℕ → List ℕ → List ℕ
prospect earning left more = decimal earning ++ (codes ": " ++ (left ++ (codes " left, " ++ more)))
