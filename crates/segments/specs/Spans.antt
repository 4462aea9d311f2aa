-- Where a rule holds, as the code has it. Definitions only: nothing is assumed.
use Rattle.std.specs.Prelude.{◌≡◌, ℕ, zero, suc, ◌+◌, ◌*◌, ◌/◌, Bool, true, ◌&&◌, List, ◌∷◌, Some, None, Option, nat_le, nat_lt}
use Rattle.raise.specs.Rules.{Rule, takes, gives, takes_sum, gives_sum, fades}
use Rattle.raise.specs.Net.{breakpoints, holds}
use Rattle.segments.specs.declared.spans.Span.{Span}
use Rattle.segments.specs.Points.{nearer}

-- from its first breakpoint on, up to before its second, if there is one
abbrev pub span : Rule → Span
span (takes a b r) = record { from = a; to = Some b }
span (gives a b r) = record { from = a; to = Some b }
span (takes_sum a b s) = record { from = a; to = Some b }
span (gives_sum a b s) = record { from = a; to = Some b }
span (fades a zero s) = record { from = a; to = None }
span (fades a (suc r) s) = record { from = a; to = Some (suc (a + 10000 * s / suc r)) }

-- the nearer of an end above x, if there is one, and m
abbrev pub nearer_end : ℕ → Option ℕ → ℕ → ℕ
nearer_end x None m = m
nearer_end x (Some y) m = nearer x y m

-- the nearest of a span's breakpoints above x, or m
abbrev pub nearest : Span → ℕ → ℕ → ℕ
nearest s x m = nearer x s.from (nearer_end x s.to m)

-- ---- what a span tells of its rule

-- y, if there is one, before others
abbrev pub before : Option ℕ → List ℕ → List ℕ
before None xs = xs
before (Some y) xs = y ∷ xs

-- the breakpoints of a rule are the ends of its span
abbrev pub SpanEnds : Type 0
SpanEnds = (r : Rule) (rs : List Rule) → breakpoints (r ∷ rs) ≡ (span r).from ∷ before (span r).to (breakpoints rs)

-- is g before an end, if there is one
abbrev pub before_end : Option ℕ → ℕ → Bool
before_end None g = true
before_end (Some y) g = nat_lt g y

-- and it holds from the first of them on, before the second
abbrev pub SpanHolds : Type 0
SpanHolds = (r : Rule) (g : ℕ) → holds r g ≡ (nat_le (span r).from g && before_end (span r).to g)
