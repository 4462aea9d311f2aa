-- What the laws speak of, besides the promises: where a loss shows, what is safe, what a row is, and books that answer alike.
-- Definitions only; the contracts in src/laws.rt state the laws.
use Rattle.std.specs.Prelude.{◌≡◌, ℕ, zero, suc, ◌+◌, ◌<◌, ◌≤◌, Bool, true, false, ◌||◌, ◌⊎◌, List, ◌==◌, nat_le, nat_lt}
use Rattle.raise.specs.Rules.{Rule, takes, gives, takes_sum, gives_sum, fades, plus, minus, all_plus, all_minus, less_left, loses}
use Rattle.raise.specs.Calls.{left_of, next_row, safe, Answer, two, Limits, answer}
use Rattle.raise.specs.Promise.{near, rate_at}
use Rattle.raise.specs.Net.{among}

-- ---- who loses

-- there is a larger earning, up to b, of which less is left than of g
abbrev pub LessAbove : List Rule → ℕ → ℕ → Type 0
LessAbove rs b g = (h : ℕ) × (g < h) × (h ≤ b) × (less_left rs g h ≡ true)

-- nobody loses, up to b
abbrev pub Nobody : List Rule → ℕ → Type 0
Nobody rs b = (g : ℕ) → g ≤ b → loses rs b g ≡ false

-- up to b, more earned is never less left
abbrev pub Rises : List Rule → ℕ → Type 0
Rises rs b = (g h : ℕ) → g ≤ h → h ≤ b → all_plus rs g + all_minus rs h ≤ all_plus rs h + all_minus rs g

-- ---- where a loss shows

-- there is such a larger earning that is one of the points, or just before one, or the bound
abbrev pub SeenAt : List ℕ → List Rule → ℕ → ℕ → Type 0
SeenAt points rs b g = (h : ℕ) × (g < h) × (h ≤ b) × (less_left rs g h ≡ true) × (((among points h ≡ true) ⊎ (among points (suc h) ≡ true)) ⊎ (h ≡ b))

-- there is one that is near a point, or the bound
abbrev pub SeenNear : List ℕ → List Rule → ℕ → ℕ → Type 0
SeenNear points rs b g = (h : ℕ) × (g < h) × (h ≤ b) × (less_left rs g h ≡ true) × ((near points h ≡ true) ⊎ (h ≡ b))

-- ---- rates

-- nobody loses by rates and fades that together take no more than `most` of each unit
abbrev pub RatesWithin : ℕ → Type 0
RatesWithin most = (rs : List Rule) (b : ℕ) → ((g : ℕ) → g < b → rate_at rs g ≤ most) → Nobody rs b

-- that is true of `most`, and of nothing above it
abbrev pub JustWithin : ℕ → Type 0
JustWithin most = RatesWithin most × ((more : ℕ) → most < more → RatesWithin more → ⊥)

-- ---- safe earnings

-- up to b, from h on at least as much is left as of g
abbrev pub SafeOn : List Rule → ℕ → ℕ → ℕ → Type 0
SafeOn rs b g h = (k : ℕ) → h ≤ k → k ≤ b → less_left rs g k ≡ false

-- from h on there is an earning of which less is left
abbrev pub UnsafeOn : List Rule → ℕ → ℕ → ℕ → Type 0
UnsafeOn rs b g h = (k : ℕ) × (h ≤ k) × (k ≤ b) × (less_left rs g k ≡ true)

-- what an answer says: 0 that nothing above g is safe for g, one more than h that h is and nothing smaller above g is
abbrev pub SafeTold : List Rule → ℕ → ℕ → ℕ → Type 0
SafeTold rs b g zero = (j : ℕ) → g < j → j ≤ b → UnsafeOn rs b g j
SafeTold rs b g (suc h) = (g < h) × (h ≤ b) × SafeOn rs b g h × ((j : ℕ) → g < j → j < h → UnsafeOn rs b g j)

-- ---- rows

-- the first row from g on: all of it loses, nobody before it from g on does, and the next after it doesn't
pub record FirstRow (rs : List Rule) (b g first last : ℕ) : Type 0 where
  pub from_asked : g ≤ first
  pub in_order : first ≤ last
  pub below_bound : last < b
  pub all_lose : (k : ℕ) → first ≤ k → k ≤ last → loses rs b k ≡ true
  pub none_before : (k : ℕ) → g ≤ k → k < first → loses rs b k ≡ false
  pub not_after : loses rs b (suc last) ≡ false

-- what an answer says: 0 and 0 that nobody from g on loses, and else one more than the first and than the last of that row
abbrev pub RowTold : List Rule → ℕ → ℕ → Answer → Type 0
RowTold rs b g told =
    ((told ≡ two 0 0) × ((k : ℕ) → g ≤ k → k ≤ b → loses rs b k ≡ false)) ⊎
    ((first : ℕ) × (last : ℕ) × (told ≡ two (suc first) (suc last)) × FirstRow rs b g first last)

-- ---- books that answer alike

-- two lists of rules get the same answers to left, row and safe
abbrev pub AskedAlike : Limits → List Rule → List Rule → Type 0
AskedAlike l rs qs =
    (g : ℕ) → (answer l rs (left_of g) ≡ answer l qs (left_of g)) × (answer l rs (next_row g) ≡ answer l qs (next_row g)) × (answer l rs (safe g) ≡ answer l qs (safe g))

-- by both, the same comes in and goes out at every earning up to b
abbrev pub SameUpTo : ℕ → List Rule → List Rule → Type 0
SameUpTo b rs qs = (g : ℕ) → g ≤ b → (all_plus rs g ≡ all_plus qs g) × (all_minus rs g ≡ all_minus qs g)

-- up to b a rule neither gives nor takes
abbrev pub Idle : Rule → ℕ → Type 0
Idle r b = (g : ℕ) → g ≤ b → (plus r g ≡ 0) × (minus r g ≡ 0)

-- which rules these are: a rate of 0, or one that begins at the bound or above; a sum of 0, or one that begins above the bound.
-- A fade gives its sum before its border, wherever that is, so only the sum counts
unfoldable pub idle : Rule → ℕ → Bool
idle (takes a b r) bound = r == 0 || nat_le bound a
idle (gives a b r) bound = r == 0 || nat_le bound a
idle (takes_sum a b s) bound = s == 0 || nat_lt bound a
idle (gives_sum a b s) bound = s == 0 || nat_lt bound a
idle (fades a r s) bound = s == 0
