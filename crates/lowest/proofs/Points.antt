-- The next breakpoint below: the segment from it on ends where it was sought from.
use Rattle.std.proofs.Common.{◌≡◌, ℕ, suc, ◌<◌, ◌≤◌, true, ◌⊎◌, List, inl, inr, arith}
use Rattle.std.proofs.lemmas.Bool.{cases_lt}
use Rattle.raise.specs.Rules.{Rule}
use Rattle.raise.specs.Net.{breakpoints, among}
use Rattle.raise.proofs.Look.{outside}
use Rattle.segments.specs.Points.{next_breakpoint, Next}
use Rattle.segments.proofs.Points.{next_breakpoints}
use Rattle.hinges.specs.Below.{breakpoint_below}
use Rattle.hinges.proofs.Points.{breakpoints_below}

-- there is one next point
one_next : (ys : List ℕ) (x e y z : ℕ) → Next ys x e y → Next ys x e z → y ≤ z
one_next ys x e y z i j =
    elim (cases_lt z y) [
      | inr not ↦ not
      | inl less ↦ elim j.reached [ inl point ↦ absurd (outside ys x y z i.between point j.above less) | inr end ↦ absurd (omega (arith, i.within)) ]
    ]

-- ---- what the walk goes by

-- a place where the walk stands: a breakpoint, or one past the bound
abbrev pub Stands : List Rule → ℕ → ℕ → Type 0
Stands rs b x = (0 < x) × (x ≤ suc b) × ((among (breakpoints rs) x ≡ true) ⊎ (x ≡ suc b))

-- the breakpoint below: it is one, and the next above it is where the walk stands
pub record Below (rs : List Rule) (b x y : ℕ) : Type 0 where
  pub less : y < x
  pub point : among (breakpoints rs) y ≡ true
  pub next : next_breakpoint rs b y ≡ x

pub is_below : (rs : List Rule) (b x : ℕ) → Stands rs b x → Below rs b x (breakpoint_below rs x)
is_below rs b x at =
    let ys = breakpoints rs in
    let y = breakpoint_below rs x in
    let i = breakpoints_below rs x at.0 in
    let n = next_breakpoints rs b y (omega (arith, i.below, at.1)) in
    let m : Next ys y (suc b) x = record { above = i.below; within = at.1; between = i.between; reached = at.2 } in
    record {
      less = i.below;
      point = i.reached;
      next = omega (arith, one_next ys y (suc b) _ x n m, one_next ys y (suc b) x _ m n);
    }
