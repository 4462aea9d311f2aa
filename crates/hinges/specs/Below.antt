-- The next breakpoint below an earning. Definitions only: nothing is assumed.
use Rattle.std.specs.Prelude.{◌≡◌, ℕ, ◌<◌, true, ◌&&◌, List, [], ◌∷◌, nat_lt}
use Rattle.raise.specs.Rules.{pick, Rule}
use Rattle.raise.specs.Net.{breakpoints, clear, among}

-- y, if it is below x and above m
abbrev pub nearer_below : ℕ → ℕ → ℕ → ℕ
nearer_below x y m = pick (nat_lt m y && nat_lt y x) y m

-- the greatest of the points below x, or m where none of these is above m
unfoldable pub greatest_below : List ℕ → ℕ → ℕ → ℕ
greatest_below [] x m = m
greatest_below (y ∷ ys) x m = greatest_below ys x (nearer_below x y m)

-- the next breakpoint below x; 0 is one
abbrev pub breakpoint_below : List Rule → ℕ → ℕ
breakpoint_below rs x = greatest_below (breakpoints rs) x 0

-- what that says: y is below x, no point lies strictly between y and x, and y is a point
pub record Previous (points : List ℕ) (x y : ℕ) : Type 0 where
  pub below : y < x
  pub between : clear points y x ≡ true
  pub reached : among points y ≡ true

abbrev pub BreakpointsBelow : Type 0
BreakpointsBelow = (rs : List Rule) (x : ℕ) → 0 < x → Previous (breakpoints rs) x (breakpoint_below rs x)
