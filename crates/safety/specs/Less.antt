-- The last earning of which less is left than so much, or than of another. Definitions only: nothing is assumed.
use Rattle.std.specs.Prelude.{◌≡◌, ℕ, suc, ◌<◌, ◌≤◌, Bool, true, false, List, ℤ, Some, None, Option, int_lt}
use Rattle.raise.specs.Rules.{Rule, less_left}
use Rattle.raise.specs.Net.{on_line}
use Rattle.raise.specs.Laws.{SafeOn}
use Rattle.segments.specs.declared.lines.Segment.{Segment}

-- is less than m left of g, by the line of a segment
abbrev pub below_at : Segment → ℤ → ℕ → Bool
below_at s m g = int_lt (on_line s.from s.net s.slope g) m

-- the last earning on a segment of which less than m is left; none where that is so of none
abbrev pub LastBelow : Segment → ℤ → Option ℕ → Type 0
LastBelow s m None = (g : ℕ) → s.from ≤ g → g < s.to → below_at s m g ≡ false
LastBelow s m (Some x) = (s.from ≤ x) × (x < s.to) × (below_at s m x ≡ true) × ((g : ℕ) → x < g → g < s.to → below_at s m g ≡ false)

-- the last earning above g, up to b, of which less is left than of g; none where that is so of none
abbrev pub LastLess : List Rule → ℕ → ℕ → Option ℕ → Type 0
LastLess rs b g None = SafeOn rs b g (suc g)
LastLess rs b g (Some x) = (g < x) × (x ≤ b) × (less_left rs g x ≡ true) × SafeOn rs b g (suc x)
