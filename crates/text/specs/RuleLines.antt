-- Rules as lines, both ways: what every line says, and the line of a rule. Definitions and a statement only: nothing is assumed.
--
-- A line is words apart by blanks, and a comment from '#' on, which says nothing. A rate is a percentage. `on` is up to a billion, so
-- that a sum that goes on holds up to one below; `below` is from nothing on.
use Rattle.std.specs.Prelude.{◌≡◌, ℕ, ◌/◌, ◌%◌, ◌<◌, true, List, [], ◌∷◌, ◌++◌, Option, Some, None, codes, decimal, ◌==◌}
use Rattle.raise.specs.Rules.{pick, Rule, takes, gives, takes_sum, gives_sum, fades}
use Rattle.raise.specs.Calls.{fine}
use Rattle.raise.specs.Promise.{readable_rule}
use Rattle.wire.specs.Meaning.{meant}
use Rattle.text.specs.declared.words.Word.{Word}
use Rattle.text.specs.declared.words.Word.TheVariants as word
use Rattle.text.specs.declared.rule_lines.Span.{Span}
use Rattle.text.specs.declared.rule_lines.Flow.{Flow}
use Rattle.text.specs.declared.rule_lines.Flow.TheVariants.{Rate, Sum}
use Rattle.text.specs.declared.rule_lines.RuleLine.{RuleLine}
use Rattle.text.specs.declared.rule_lines.RuleLine.TheVariants as code
use Rattle.text.specs.Words.{in_hundredths, words_of}

-- what a line says
pub data Says : Type 0 where
  nothing : Says
  bounds : ℕ → Says
  lays : Rule → Says
  unreadable : Says

-- ---- reading

abbrev pub span_of : List Word → Option Span
span_of (word.From ∷ (word.Number a ∷ (word.To ∷ (word.Number b ∷ [])))) = Some (record { from = a; to = b })
span_of (word.From ∷ (word.Number a ∷ (word.On ∷ []))) = Some (record { from = a; to = 1000000000 })
span_of (word.Below ∷ (word.Number b ∷ [])) = Some (record { from = 0; to = b })
span_of ws = None

-- a percentage, in ten-thousandths
abbrev pub rate_of : Word → Option ℕ
rate_of (word.Number n) = Some (in_hundredths n 0)
rate_of (word.Decimal n) = Some n
rate_of w = None

abbrev pub with_rate : Option ℕ → Option Span → Option Flow
with_rate (Some r) (Some s) = Some (Rate s r)
with_rate r s = None

abbrev pub with_sum : ℕ → Option Span → Option Flow
with_sum n (Some s) = Some (Sum s n)
with_sum n None = None

-- what is taken or given: so much of each unit, or a sum
abbrev pub flow_of : List Word → Option Flow
flow_of (w ∷ (word.Percent ∷ ws)) = with_rate (rate_of w) (span_of ws)
flow_of (word.Number n ∷ ws) = with_sum n (span_of ws)
flow_of ws = None

abbrev pub taken : Option Flow → Says
taken (Some (Rate s r)) = lays (takes s.from s.to r)
taken (Some (Sum s n)) = lays (takes_sum s.from s.to n)
taken None = unreadable

abbrev pub given : Option Flow → Says
given (Some (Rate s r)) = lays (gives s.from s.to r)
given (Some (Sum s n)) = lays (gives_sum s.from s.to n)
given None = unreadable

abbrev pub faded : ℕ → ℕ → Option ℕ → Says
faded a n (Some r) = lays (fades a r n)
faded a n None = unreadable

abbrev pub said_by : List Word → Says
said_by [] = nothing
said_by (word.Bound ∷ (word.Number n ∷ [])) = bounds n
said_by (word.Take ∷ ws) = taken (flow_of ws)
said_by (word.Give ∷ ws) = given (flow_of ws)
said_by (word.Fade ∷ (word.Number n ∷ (word.At ∷ (w ∷ (word.Percent ∷ (word.Above ∷ (word.Number a ∷ []))))))) = faded a n (rate_of w)
said_by ws = unreadable

-- what any line says
unfoldable pub line_says : List ℕ → Says
line_says line = said_by (words_of line)

-- what the code makes of it
abbrev pub said : Option RuleLine → Says
said None = unreadable
said (Some code.Empty) = nothing
said (Some (code.Bound n)) = bounds n
said (Some (code.Rule r)) = lays (meant r)

-- ---- writing

-- a rate as a percentage, with no more places than it needs
abbrev pub percentage : ℕ → List ℕ
percentage r =
    pick (r % 100 == 0) (decimal (r / 100))
    (pick (r % 10 == 0) (decimal (r / 100) ++ (codes "." ++ decimal (r / 10 % 10)))
    (decimal (r / 100) ++ (codes "." ++ (decimal (r / 10 % 10) ++ decimal (r % 10)))))

abbrev pub span_text : ℕ → ℕ → List ℕ
span_text a b = codes " from " ++ (decimal a ++ (codes " to " ++ decimal b))

abbrev pub rule_text : Rule → List ℕ
rule_text (takes a b r) = codes "take " ++ (percentage r ++ (codes " %" ++ span_text a b))
rule_text (gives a b r) = codes "give " ++ (percentage r ++ (codes " %" ++ span_text a b))
rule_text (takes_sum a b s) = codes "take " ++ (decimal s ++ span_text a b)
rule_text (gives_sum a b s) = codes "give " ++ (decimal s ++ span_text a b)
rule_text (fades a r s) = codes "fade " ++ (decimal s ++ (codes " at " ++ (percentage r ++ (codes " % above " ++ decimal a))))

-- the line that says something; empty for nothing, and for what can't be read, of which none is written
abbrev pub line_text : Says → List ℕ
line_text nothing = []
line_text (bounds n) = codes "bound " ++ decimal n
line_text (lays r) = rule_text r
line_text unreadable = []

-- ---- what is promised

-- a bound or a rule whose numbers have 32 bits, as every rule in range, reads back from its line
pub record ReadsBack : Type 0 where
  pub nothing : line_says (line_text nothing) ≡ nothing
  pub bounds : (n : ℕ) → n < 4294967296 → line_says (line_text (bounds n)) ≡ bounds n
  pub rules : (r : Rule) → readable_rule r ≡ true → line_says (rule_text r) ≡ lays r
  pub in_range : (r : Rule) → fine r ≡ true → line_says (rule_text r) ≡ lays r

-- a rate, or a sum, is taken or given from a border to another; on, up to a billion; or below a border, from nothing on
abbrev pub EachSpan : (List ℕ → List ℕ) → (ℕ → ℕ → Rule) → Type 0
EachSpan line rule =
    (a b : ℕ) → a < 4294967296 → b < 4294967296 → (line_says (line (codes " from " ++ (decimal a ++ (codes " to " ++ decimal b)))) ≡ lays (rule a b)) ×
    (line_says (line (codes " from " ++ (decimal a ++ codes " on"))) ≡ lays (rule a 1000000000)) × (line_says (line (codes " below " ++ decimal b)) ≡ lays (rule 0 b))

pub record FormsRead : Type 0 where
  pub rate_taken : (r : ℕ) → r < 4294967296 → EachSpan (λ span. codes "take " ++ (percentage r ++ (codes " %" ++ span))) (λ a b. takes a b r)
  pub rate_given : (r : ℕ) → r < 4294967296 → EachSpan (λ span. codes "give " ++ (percentage r ++ (codes " %" ++ span))) (λ a b. gives a b r)
  pub sum_taken : (n : ℕ) → n < 4294967296 → EachSpan (λ span. codes "take " ++ (decimal n ++ span)) (λ a b. takes_sum a b n)
  pub sum_given : (n : ℕ) → n < 4294967296 → EachSpan (λ span. codes "give " ++ (decimal n ++ span)) (λ a b. gives_sum a b n)
  -- what stands behind '#' says nothing
  pub comments : (line comment : List ℕ) → line_says (line ++ (codes "#" ++ comment)) ≡ line_says line
