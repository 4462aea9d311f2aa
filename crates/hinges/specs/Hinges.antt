-- Net as a sum over hinges: those of each rule, what they add up to, and what that says. Definitions only: nothing is assumed.
use Rattle.std.specs.Prelude.{◌≡◌, ℕ, zero, suc, ◌+◌, ◌-◌, ◌*◌, ◌/◌, ◌%◌, ◌≤◌, List, [], ◌∷◌, ◌++◌, map, length, ℤ, pos, ◌+ℤ◌, ◌-ℤ◌, ◌*ℤ◌, neg_ℤ, min, nat_le, unsigned_abs}
use Rattle.std.specs.List.{AllByRecursion}
use Rattle.std.specs.List.Sorted.{IsNonDecreasingBy}
use Rattle.raise.specs.Rules.{pick, Rule, takes, gives, takes_sum, gives_sum, fades}
use Rattle.raise.specs.Net.{net, slope, on_line}
use Rattle.book.specs.Held.{Within}
use Rattle.hinges.specs.declared.hinge.Hinge.{Hinge}
use Rattle.segments.specs.declared.lines.Segment.{Segment}
use Rattle.hinges.specs.Below.{greatest_below, breakpoint_below}

-- what a hinge adds to net at g, and to the slope there: nothing below it
abbrev pub bend : Hinge → ℕ → ℤ
bend h g = pick (nat_le h.at g) (on_line h.at h.jump h.pace g) (pos 0)

abbrev pub turn : Hinge → ℕ → ℤ
turn h g = pick (nat_le h.at g) h.pace (pos 0)

-- all of them
unfoldable pub bends : List Hinge → ℕ → ℤ
bends [] g = pos 0
bends (h ∷ hs) g = bend h g +ℤ bends hs g

unfoldable pub turns : List Hinge → ℕ → ℤ
turns [] g = pos 0
turns (h ∷ hs) g = turn h g +ℤ turns hs g

-- where they are
abbrev pub ats : List Hinge → List ℕ
ats hs = map (λ h. h.at) hs

-- ---- those of a rule

-- what begins at a hinge ends at b
abbrev pub stretch : Hinge → ℕ → List Hinge
stretch h b = h ∷ (record { at = b; jump = neg_ℤ h.jump; pace = neg_ℤ h.pace } ∷ [])

-- the last gross that there is a number of 32 bits for, far above every bound
abbrev pub last_gross : ℕ
last_gross = 4294967295

-- where a fade of m ten-thousandths is used up: one past the last unit at which something may be left of it, its line is below
-- nothing by what of a rate the last unit did not have
abbrev pub faded : ℕ → ℕ → ℕ → List Hinge
faded a zero m = []
faded a (suc r) m = record { at = min (suc (a + m / suc r)) last_gross; jump = pos (suc r - m % suc r); pace = pos (suc r) } ∷ []

abbrev pub hinges_of : Rule → List Hinge
hinges_of (takes a b r) = stretch (record { at = a; jump = pos 0; pace = neg_ℤ (pos r) }) b
hinges_of (gives a b r) = stretch (record { at = a; jump = pos 0; pace = pos r }) b
hinges_of (takes_sum a b s) = stretch (record { at = a; jump = neg_ℤ (pos (10000 * s)); pace = pos 0 }) b
hinges_of (gives_sum a b s) = stretch (record { at = a; jump = pos (10000 * s); pace = pos 0 }) b
hinges_of (fades a r s) = record { at = 0; jump = pos (10000 * s); pace = pos 0 } ∷ (record { at = a; jump = pos 0; pace = neg_ℤ (pos r) } ∷ faded a r (10000 * s))

-- ---- those of all rules

unfoldable pub of_rules : List Rule → List Hinge
of_rules [] = []
of_rules (r ∷ rs) = hinges_of r ++ of_rules rs

-- the unit itself, and the rules
abbrev pub hinges : List Rule → List Hinge
hinges rs = record { at = 0; jump = pos 0; pace = pos 10000 } ∷ of_rules rs

-- ---- what they come to

-- the greatest gross at which one of them is, of those up to g; net at g; and the slope there
pub record Sum : Type 0 where
  pub from : ℕ
  pub net : ℤ
  pub slope : ℤ

abbrev pub sum_of : List Hinge → ℕ → Sum
sum_of hs g = record { from = greatest_below (ats hs) (suc g) 0; net = bends hs g; slope = turns hs g }

-- the segment that ends with g
abbrev pub segment_by : Sum → ℕ → Segment
segment_by s g = record { from = s.from; to = suc g; net = s.net -ℤ (s.slope *ℤ pos (g - s.from)); slope = s.slope }

-- ---- sizes that leave room to add them up

-- what any numbers of 32 bits make, so that it can be ended
abbrev pub Mild : Hinge → Type 0
Mild h = (unsigned_abs h.jump ≤ 42949672950000) × (unsigned_abs h.pace ≤ 4294967295)

-- what a rule in range makes
abbrev pub SizedHinge : Hinge → Type 0
SizedHinge h = (unsigned_abs h.jump ≤ 1000000000000) × (unsigned_abs h.pace ≤ 20000)

abbrev pub Sized : List Hinge → Type 0
Sized hs = (length hs ≤ 193) × AllByRecursion SizedHinge hs

-- each is where the one before it is, or above
abbrev pub Ordered : List Hinge → Type 0
Ordered hs = IsNonDecreasingBy (λ h. h.at) hs

-- ---- what they say

-- up to the greatest bound they add up to net and to the slope, and where they are are the breakpoints
pub record HingesOf (rs : List Rule) (hs : List Hinge) : Type 0 where
  pub sized : Sized hs
  pub net : (g : ℕ) → g ≤ 1000000000 → bends hs g ≡ net rs g
  pub slope : (g : ℕ) → g ≤ 1000000000 → turns hs g ≡ slope rs g
  pub below : (x : ℕ) → x ≤ 1000000001 → greatest_below (ats hs) x 0 ≡ breakpoint_below rs x

-- so of all rules that a book can hold
abbrev pub HingesTell : Type 0
HingesTell = (rs : List Rule) → Within rs → HingesOf rs (hinges rs)

-- the segment that ends with g, then, is that from the next breakpoint below on
abbrev pub SegmentsTell : Type 0
SegmentsTell =
    (rs : List Rule) (hs : List Hinge) (g : ℕ) → HingesOf rs hs → g ≤ 1000000000 →
    segment_by (sum_of hs g) g ≡ record { from = breakpoint_below rs (suc g); to = suc g; net = net rs (breakpoint_below rs (suc g)); slope = slope rs (breakpoint_below rs (suc g)) }
