-- Small books, as the worked examples have them. Definitions only: nothing is assumed.
use Rattle.std.specs.Prelude.{◌≡◌, ℕ, ◌≤◌, List, [], ◌∷◌, Option}
use Rattle.raise.specs.declared.LosingRow.{LosingRow}
use Rattle.raise.specs.Rows.{lies_if}
use Rattle.raise.specs.Rules.{Rule, takes, takes_sum, fades, loses}

-- of all earnings up to b just those of the row lose
pub record OnlyRow (rs : List Rule) (b : ℕ) (row : Option LosingRow) : Type 0 where
  pub just_these : (g : ℕ) → g ≤ b → loses rs b g ≡ lies_if row g

-- take 0 to 10, 10,000: all of each unit is taken, and no more
abbrev pub full_tax : List Rule
full_tax = takes 0 10 10000 ∷ []

-- take 0 to 10, 12,000: more than all of each unit
abbrev pub steep_tax : List Rule
steep_tax = takes 0 10 12000 ∷ []

-- take a sum 10 to 20, 3: a charge that begins at once
abbrev pub charge : List Rule
charge = takes_sum 10 20 3 ∷ []

-- fade 5, 9,000, 9; take 0 to 100, 2,000: a benefit that fades while a tax is taken
abbrev pub taxed_fade : List Rule
taxed_fade = fades 5 9000 9 ∷ (takes 0 100 2000 ∷ [])
