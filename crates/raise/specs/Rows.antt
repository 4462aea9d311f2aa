-- Rows of earnings that lose: what a list of all of them is, and how it is found by trying. Definitions only: nothing is assumed.
use Rattle.std.specs.Prelude.{◌≡◌, ℕ, zero, suc, ◌+◌, ◌≤◌, Bool, false, ◌&&◌, ◌||◌, List, [], ◌∷◌, Some, None, Option, ◌==◌, nat_le, nat_lt}
use Rattle.std.specs.Option.{option_or}
use Rattle.raise.specs.declared.LosingRow.{LosingRow}
use Rattle.raise.specs.Rules.{pick, Rule, loses}

-- does g lie in a row; in one, if there is one; in one of many
abbrev pub lies_in : LosingRow → ℕ → Bool
lies_in r g = nat_le r.first g && nat_le g r.last

abbrev pub lies_if : Option LosingRow → ℕ → Bool
lies_if None g = false
lies_if (Some r) g = lies_in r g

unfoldable pub lies_in_one : List LosingRow → ℕ → Bool
lies_in_one [] g = false
lies_in_one (r ∷ rs) g = lies_in r g || lies_in_one rs g

-- in order from x on, none of them empty, and at least one earning between each and the next
unfoldable pub Apart : ℕ → List LosingRow → Type 0
Apart x [] = Unit {0}
Apart x (r ∷ rs) = (x ≤ r.first) × (r.first ≤ r.last) × Apart (r.last + 2) rs

-- the rows of the earnings below e that pass a test, each as long as can be: an earning lies in one just if it is below e and
-- passes
pub record RowsOf (test : ℕ → Bool) (e : ℕ) (rows : List LosingRow) : Type 0 where
  pub apart : Apart 0 rows
  pub exact : (g : ℕ) → lies_in_one rows g ≡ (nat_lt g e && test g)

-- of those up to b who lose
abbrev pub LosingRows : List Rule → ℕ → List LosingRow → Type 0
LosingRows rs b rows = RowsOf (loses rs b) (suc b) rows

-- ---- by trying

-- one earning more, joined to the first of these or apart from it
abbrev pub with_one : ℕ → List LosingRow → List LosingRow
with_one g [] = record { first = g; last = g } ∷ []
with_one g (r ∷ rs) = pick (r.first == suc g) (record { first = g; last = r.last } ∷ rs) (record { first = g; last = g } ∷ (r ∷ rs))

-- those of n earnings from x on that pass a test
unfoldable pub rows_that : (ℕ → Bool) → ℕ → ℕ → List LosingRow
rows_that test zero x = []
rows_that test (suc n) x = pick (test x) (with_one x (rows_that test n (suc x))) (rows_that test n (suc x))

-- those of all who lose, up to b
unfoldable pub losing_rows : List Rule → ℕ → List LosingRow
losing_rows rs b = rows_that (loses rs b) (suc b) 0

-- ---- from an earning on

abbrev pub greater : ℕ → ℕ → ℕ
greater a b = pick (nat_le a b) b a

-- what of a row lies at g or above, if anything does
abbrev pub rest_from : LosingRow → ℕ → Option LosingRow
rest_from r g = pick (nat_le g r.last) (Some (record { first = greater g r.first; last = r.last })) None

-- that of the first row of which anything does
unfoldable pub first_row_from : List LosingRow → ℕ → Option LosingRow
first_row_from [] g = None
first_row_from (r ∷ rs) g = option_or (rest_from r g) (first_row_from rs g)
