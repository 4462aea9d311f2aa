-- What is promised. Each promise is a statement, a type; the functions whose contracts name it owe its proof. Nothing is assumed.
use Rattle.std.specs.Prelude.{◌≡◌, ℕ, zero, suc, ◌+◌, ◌*◌, ◌/◌, ◌<◌, ◌≤◌, Bool, true, false, ◌&&◌, ◌||◌, ◌⊎◌, List, [], ◌∷◌, ◌++◌, length, nat_le, nat_lt}
use Rattle.raise.specs.Rules.{pick, Rule, takes, gives, takes_sum, gives_sum, fades, all_plus, all_minus, less_left, loses, safe_from}
use Rattle.raise.specs.Calls.{Call, Answer, Limits, turned, after, answers}

abbrev pub GoodLimits : Limits → Type 0
GoodLimits l = (l.rules ≤ 64) × (l.bound ≤ 1000000000)

-- numbers that a field of four bytes can carry
abbrev pub field : ℕ → Bool
field n = nat_lt n 4294967296

unfoldable pub readable_rule : Rule → Bool
readable_rule (takes a b r) = field a && (field b && field r)
readable_rule (gives a b r) = field a && (field b && field r)
readable_rule (takes_sum a b s) = field a && (field b && field s)
readable_rule (gives_sum a b s) = field a && (field b && field s)
readable_rule (fades a r s) = field a && (field r && field s)

unfoldable pub readable : Call → Bool
readable (Rattle.raise.specs.Calls.lays r) = readable_rule r
readable (Rattle.raise.specs.Calls.lifts i) = field i
readable (Rattle.raise.specs.Calls.left_of g) = field g
readable (Rattle.raise.specs.Calls.next_row g) = field g
readable (Rattle.raise.specs.Calls.safe g) = field g
readable (Rattle.raise.specs.Calls.garbled n) = field n

unfoldable pub all_readable : List Call → Bool
all_readable [] = true
all_readable (c ∷ cs) = readable c && all_readable cs

-- ---- the main promise
--
-- A desk is what the contracts of the session's open and call say of the lent memory and of the answer. For every list of calls
-- its answers are those of the written book, which tries every earning with every larger one, up to a bound of 1,000,000,000.
pub record Memory : Type 0 where
  pub words : List ℕ

pub record Desk : Type 0 where
  pub opened : Limits → Memory
  pub next : Memory → Call → Memory
  pub says : Memory → Call → Answer

unfoldable pub told_by : Desk → Memory → List Call → List Answer
told_by d m [] = []
told_by d m (c ∷ cs) = d.says m c ∷ told_by d (d.next m c) cs

unfoldable pub left_by : Desk → Memory → List Call → Memory
left_by d m [] = m
left_by d m (c ∷ cs) = left_by d (d.next m c) cs

unfoldable pub ran : Limits → List Rule → List Call → List Rule
ran l rs [] = rs
ran l rs (c ∷ cs) = ran l (after l rs c) cs

-- every answer is the written book's
abbrev pub Right : (ℕ → Bool) → Desk → Type 0
Right can d = (l : Limits) (cs : List Call) → GoodLimits l → l.rules_can ≡ can → all_readable cs ≡ true → told_by d (d.opened l) cs ≡ answers l [] cs

-- a call that is turned away changes nothing
abbrev pub RefusalKeeps : (ℕ → Bool) → Desk → Type 0
RefusalKeeps can d =
    (l : Limits) (cs : List Call) (c : Call) → GoodLimits l → l.rules_can ≡ can → all_readable (cs ++ (c ∷ [])) ≡ true → 0 < turned l (ran l [] cs) c →
    d.next (left_by d (d.opened l) cs) c ≡ left_by d (d.opened l) cs

unfoldable pub all_below : ℕ → List ℕ → Bool
all_below b [] = true
all_below b (x ∷ xs) = nat_lt x b && all_below b xs

-- the memory has at most 64 words for each rule and 256 more, and each of its words has 64 bits: nothing grows with what is earned
abbrev pub EnoughMemory : Desk → Type 0
EnoughMemory d =
    (l : Limits) (cs : List Call) → GoodLimits l → all_readable cs ≡ true → (length (left_by d (d.opened l) cs).words ≤ 64 * l.rules + 256) × (all_below 18446744073709551616 (left_by d (d.opened l) cs).words ≡ true)

-- kinds of rules: rates only, and all
abbrev pub thin : ℕ → Bool
thin k = nat_lt k 2

abbrev pub whole : ℕ → Bool
whole k = true

-- ---- statements about the definitions themselves

-- whoever loses can be shown a larger earning of which less is left; for whoever doesn't there is none
abbrev pub Shown : Type 0
Shown =
    (rs : List Rule) (b g : ℕ) →
    (loses rs b g ≡ true → (h : ℕ) × (g < h) × (h ≤ b) × (less_left rs g h ≡ true)) × (loses rs b g ≡ false → (h : ℕ) → g < h → h ≤ b → less_left rs g h ≡ false)

-- if nobody loses, more earned is never less left
abbrev pub NeverLess : Type 0
NeverLess =
    (rs : List Rule) (b : ℕ) → ((g : ℕ) → g ≤ b → loses rs b g ≡ false) → (g h : ℕ) → g ≤ h → h ≤ b →
    all_plus rs g + all_minus rs h ≤ all_plus rs h + all_minus rs g

-- a border of a rule is an earning at which its rate or its sum begins or ends; a fade's are its own and the last unit at which
-- something is left of it
unfoldable pub borders : List Rule → List ℕ
borders [] = 0 ∷ []
borders (takes a b r ∷ rs) = a ∷ (b ∷ borders rs)
borders (gives a b r ∷ rs) = a ∷ (b ∷ borders rs)
borders (takes_sum a b s ∷ rs) = a ∷ (b ∷ borders rs)
borders (gives_sum a b s ∷ rs) = a ∷ (b ∷ borders rs)
borders (fades a zero s ∷ rs) = a ∷ borders rs
borders (fades a (suc r) s ∷ rs) = a ∷ ((a + 10000 * s / suc r) ∷ borders rs)

-- is h a border, or next to one
unfoldable pub near : List ℕ → ℕ → Bool
near [] h = false
near (x ∷ xs) h = (nat_le x (suc h) && nat_le h (suc x)) || near xs h

-- where to look: between borders what is left goes in one line, so every loss shows next to a border, at the bound, or at the next
-- unit
abbrev pub WhereToLook : Type 0
WhereToLook =
    (rs : List Rule) (b g : ℕ) → loses rs b g ≡ true → (h : ℕ) × (g < h) × (h ≤ b) × (less_left rs g h ≡ true) × ((near (borders rs) h ≡ true) ⊎ ((h ≡ b) ⊎ (h ≡ suc g)))

-- the order of rules is nothing to what is left
abbrev pub AnyOrder : Type 0
AnyOrder = (rs ss : List Rule) (r q : Rule) (g : ℕ) → (all_plus (rs ++ (r ∷ (q ∷ ss))) g ≡ all_plus (rs ++ (q ∷ (r ∷ ss))) g) × (all_minus (rs ++ (r ∷ (q ∷ ss))) g ≡ all_minus (rs ++ (q ∷ (r ∷ ss))) g)

-- how much of the next unit after g the rates and fades take together; a sum counts as more than all of it
unfoldable pub rate_at : List Rule → ℕ → ℕ
rate_at [] g = 0
rate_at (takes a b r ∷ rs) g = pick (nat_le a g && nat_lt g b) r 0 + rate_at rs g
rate_at (gives a b r ∷ rs) g = rate_at rs g
rate_at (takes_sum a b s ∷ rs) g = 10001
rate_at (gives_sum a b s ∷ rs) g = 10001
rate_at (fades a r s ∷ rs) g = pick (nat_le a g) r 0 + rate_at rs g

-- rates and fades alone make nobody lose, as long as together they never take more than all of a unit
abbrev pub RatesAlone : Type 0
RatesAlone = (rs : List Rule) (b : ℕ) → ((g : ℕ) → g < b → rate_at rs g ≤ 10000) → (g : ℕ) → g ≤ b → loses rs b g ≡ false

-- the earning that is called safe is, and no smaller one above is
abbrev pub SafeFrom : Type 0
SafeFrom =
    (rs : List Rule) (b g h : ℕ) → safe_from rs b g ≡ suc h →
    (g < h) × (h ≤ b) × ((k : ℕ) → h ≤ k → k ≤ b → less_left rs g k ≡ false) × ((j : ℕ) → g < j → j < h → (k : ℕ) × (j ≤ k) × (k ≤ b) × (less_left rs g k ≡ true))
