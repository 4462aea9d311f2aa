-- Who loses on one segment. Definitions only: nothing is assumed.
use Rattle.std.specs.Prelude.{◌≡◌, ℕ, suc, ◌<◌, ◌≤◌, Bool, Some, None, Option, IfSome, ◌==◌}
use Rattle.raise.specs.declared.LosingRow.{LosingRow}
use Rattle.raise.specs.Rules.{pick}
use Rattle.raise.specs.Rows.{lies_if}

-- the part of [from, to) that passes a test is one row, not empty, if there is one
pub record PartOf (test : ℕ → Bool) (from to : ℕ) (part : Option LosingRow) : Type 0 where
  pub exact : (g : ℕ) → from ≤ g → g < to → lies_if part g ≡ test g
  pub within : IfSome part (λ r. (from ≤ r.first) × (r.first ≤ r.last) × (r.last < to))

-- the last row and a part behind it as one, if there is such a row and nothing lies between
abbrev pub joined : Option LosingRow → LosingRow → Option LosingRow
joined None p = None
joined (Some r) p = pick (p.first == suc r.last) (Some (record { first = r.first; last = p.last })) None
