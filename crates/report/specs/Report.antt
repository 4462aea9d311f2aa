-- What is told of a file of rules and of earnings: the whole text, or why there is none. Definitions only: nothing is assumed.
use Rattle.std.specs.Prelude.{ℕ, zero, suc, List, [], ◌∷◌, ◌++◌, Option, Some, None, Ok, Err, Result, codes, decimal, ◌==◌, nat_le}
use Rattle.std.specs.List.{flat_map}
use Rattle.raise.specs.declared.LosingRow.{LosingRow}
use Rattle.raise.specs.Rules.{pick, Rule, all_plus, all_minus, loses, safe_from}
use Rattle.raise.specs.Rows.{losing_rows}
use Rattle.losses.specs.Most.{most_lost}
use Rattle.text.specs.declared.prospects.Outlook.{Outlook}
use Rattle.text.specs.declared.prospects.Outlook.TheVariants.{NeverLoses, Loses}
use Rattle.text.specs.Words.{number_of}
use Rattle.text.specs.RuleLines.{Says, bounds, line_says}
use Rattle.text.specs.Shown.{amount, losing_row, outlook_text, prospect}
use Rattle.report.specs.Reading.{Draft, Misfit, has_return, draft}

-- ---- rows

abbrev pub losing_row_line : List Rule → ℕ → LosingRow → List ℕ
losing_row_line rs b r = losing_row r.first r.last (most_lost rs b r) ++ codes "\n"

-- a line for each row, or "none"
abbrev pub rows_or_none : List Rule → ℕ → List LosingRow → List ℕ
rows_or_none rs b [] = codes "none\n"
rows_or_none rs b (r ∷ rows) = flat_map (losing_row_line rs b) (r ∷ rows)

-- those of all who lose, up to b, from the first to the last
abbrev pub rows_text : List Rule → ℕ → List ℕ
rows_text rs b = rows_or_none rs b (losing_rows rs b)

-- ---- earnings

-- an earning that is told as one more than it, and 0 where there is none
abbrev pub untold : ℕ → Option ℕ
untold zero = None
untold (suc g) = Some g

-- whether somebody who earns g loses by earning more, and from where on it is safe then
abbrev pub outlook : List Rule → ℕ → ℕ → Outlook
outlook rs b g = pick (loses rs b g) (Loses (untold (safe_from rs b g))) NeverLoses

abbrev pub prospect_line : List Rule → ℕ → ℕ → List ℕ
prospect_line rs b g = prospect g (amount (all_plus rs g) (all_minus rs g)) (outlook_text (outlook rs b g)) ++ codes "\n"

-- a number, if it is one up to the bound
abbrev pub up_to : ℕ → Option ℕ → Option ℕ
up_to b None = None
up_to b (Some g) = pick (nat_le g b) (Some g) None

abbrev pub line_or_none : List Rule → ℕ → Option ℕ → List ℕ
line_or_none rs b None = []
line_or_none rs b (Some g) = prospect_line rs b g

-- the line of an earning that was named; none where it is no earning up to the bound
abbrev pub earning_line : List Rule → ℕ → List ℕ → List ℕ
earning_line rs b w = line_or_none rs b (up_to b (number_of w))

-- the first word that is no earning up to the bound
abbrev pub first_none : Option ℕ → List ℕ → Option (List ℕ) → Option (List ℕ)
first_none None w more = Some w
first_none (Some g) w more = more

unfoldable pub no_earning : ℕ → List (List ℕ) → Option (List ℕ)
no_earning b [] = None
no_earning b (w ∷ ws) = first_none (up_to b (number_of w)) w (no_earning b ws)

-- ---- what doesn't fit

-- what was expected of a line that can't stand there: of a bound that it comes once, before the first rule; else one of the forms
abbrev pub forms : Says → List ℕ
forms (bounds n) = codes "one bound at most, before the first rule"
forms says =
    codes "a line such as `bound 5000`, `take 12.5 % from 1000 to 3000`, `take 50 from 1500 on`, `give 200 below 1500` or `fade 300 at 30 % above 500`: small letters, words apart by blanks, whole numbers up to 4294967295, at most two decimals before %"

-- what was expected where a line was refused, by the number of the refusal and by the line; no line is refused by 4
unfoldable pub expected : ℕ → List ℕ → List ℕ
expected k line =
    pick (k == 1) (pick (has_return line) (codes "lines that end with a newline") (forms (line_says line)))
    (pick (k == 2) (codes "borders up to 1000000000, the first below the second; a rate up to 200 %, a sum up to 100000000")
    (pick (k == 3) (codes "a bound up to 1000000000") (codes "16 rules at most")))

abbrev pub misfit_text : Misfit → List ℕ
misfit_text m =
    codes "cliffs: refused " ++ (decimal m.number ++ (codes " at line " ++ (decimal m.line ++ (codes ": " ++ (m.text ++ (codes "\nexpected " ++ (expected m.number m.text ++ codes "\n")))))))

abbrev pub no_earning_text : ℕ → List ℕ → List ℕ
no_earning_text b w = codes "cliffs: '" ++ (w ++ (codes "' is no earning\nexpected a whole number up to the bound, which is " ++ (decimal b ++ codes "\n")))

-- ---- all of it

-- of rules, and words that name earnings, up to a bound
abbrev pub unless_refused : List Rule → ℕ → List (List ℕ) → Option (List ℕ) → Result (List ℕ) (List ℕ)
unless_refused rs b ws (Some w) = Err (no_earning_text b w)
unless_refused rs b ws None = Ok (rows_text rs b ++ flat_map (earning_line rs b) ws)

abbrev pub told_by : List Rule → ℕ → List (List ℕ) → Result (List ℕ) (List ℕ)
told_by rs b ws = unless_refused rs b ws (no_earning b ws)

abbrev pub told_of : Result Draft Misfit → List (List ℕ) → Result (List ℕ) (List ℕ)
told_of (Err m) ws = Err (misfit_text m)
told_of (Ok d) ws = told_by d.rules d.bound ws

-- what a file and words say: the text, or the message
abbrev pub report : List ℕ → List (List ℕ) → Result (List ℕ) (List ℕ)
report file ws = told_of (draft file) ws
