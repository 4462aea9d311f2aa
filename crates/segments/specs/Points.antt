-- The next breakpoint above an earning. Definitions only: nothing is assumed.
use Rattle.std.specs.Prelude.{◌≡◌, ℕ, suc, ◌<◌, ◌≤◌, true, ◌&&◌, ◌⊎◌, List, [], ◌∷◌, nat_lt}
use Rattle.raise.specs.Rules.{pick, Rule}
use Rattle.raise.specs.Net.{breakpoints, clear, among}

-- y, if it is above x and before m
abbrev pub nearer : ℕ → ℕ → ℕ → ℕ
nearer x y m = pick (nat_lt x y && nat_lt y m) y m

-- the least of the points above x, or e if none before e is
unfoldable pub least_above : List ℕ → ℕ → ℕ → ℕ
least_above [] x e = e
least_above (y ∷ ys) x e = nearer x y (least_above ys x e)

-- the next breakpoint above g, or one past the bound
abbrev pub next_breakpoint : List Rule → ℕ → ℕ → ℕ
next_breakpoint rs b g = least_above (breakpoints rs) g (suc b)

-- what that says: y is above x and no further than e, no point lies strictly between x and y, and y is a point or e
pub record Next (points : List ℕ) (x e y : ℕ) : Type 0 where
  pub above : x < y
  pub within : y ≤ e
  pub between : clear points x y ≡ true
  pub reached : (among points y ≡ true) ⊎ (y ≡ e)

abbrev pub NextBreakpoints : Type 0
NextBreakpoints = (rs : List Rule) (b g : ℕ) → g ≤ b → Next (breakpoints rs) g (suc b) (next_breakpoint rs b g)
