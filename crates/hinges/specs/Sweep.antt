-- The sweep down: the hinges that are not undone yet, and what they come to. Definitions only: nothing is assumed.
use Rattle.std.specs.Prelude.{◌≡◌, ℕ, zero, suc, ◌+◌, ◌-◌, ◌<◌, ◌≤◌, List, length, take, pos, ◌+ℤ◌, ◌-ℤ◌, ◌*ℤ◌, Some, None, Option, nat_le, slice_index_or, unsigned_abs}
use Rattle.raise.specs.Rules.{pick}
use Rattle.raise.specs.Net.{on_line}
use Rattle.segments.specs.declared.lines.Segment.{Segment}
use Rattle.hinges.specs.declared.hinge.Hinge.{Hinge}
use Rattle.hinges.specs.declared.sweep.Sweep.{Sweep}
use Rattle.hinges.specs.Hinges.{bends, turns, Ordered, sum_of, segment_by}

-- the hinge at an index; past the last of them one that bends nothing
abbrev pub hinge_at : List Hinge → ℕ → Hinge
hinge_at hs i = slice_index_or hs i (record { at = 0; jump = pos 0; pace = pos 0 })

-- where the n-th is, counted from 1; 0 for none
abbrev pub last_at : List Hinge → ℕ → ℕ
last_at hs zero = 0
last_at hs (suc i) = (hinge_at hs i).at

-- one hinge more
abbrev pub with_hinge : Sweep → Hinge → ℕ → Sweep
with_hinge l h g = record { many = l.many + 1; net = l.net +ℤ on_line h.at h.jump h.pace g; slope = l.slope +ℤ h.pace }

-- one hinge less, at the gross where it is
abbrev pub without_hinge : Sweep → Hinge → Sweep
without_hinge l h = record { many = l.many - 1; net = l.net -ℤ h.jump; slope = l.slope -ℤ h.pace }

-- without the n-th, counted from 1, if there is one and it is not below the gross
abbrev pub without_nth : List Hinge → ℕ → Sweep → ℕ → Option Sweep
without_nth hs g l zero = None
without_nth hs g l (suc i) = pick (nat_le g (hinge_at hs i).at) (Some (without_hinge l (hinge_at hs i))) None

-- the line that they come to, from one gross to another, at which its net is theirs
abbrev pub line_of : Sweep → ℕ → ℕ → Segment
line_of l from g = record { from = from; to = suc g; net = l.net -ℤ (l.slope *ℤ pos (g - from)); slope = l.slope }

-- as many of them at the beginning of a segment
abbrev pub begun : Sweep → Segment → Sweep
begun l s = record { many = l.many; net = s.net; slope = l.slope }

-- one unit before
abbrev pub one_back : Sweep → Sweep
one_back l = record { many = l.many; net = l.net -ℤ l.slope; slope = l.slope }

-- the first so many hinges are all up to g, the others from e on; and what they come to at g
pub record Reached (hs : List Hinge) (g e : ℕ) (l : Sweep) : Type 0 where
  pub many : l.many ≤ length hs
  pub low : (i : ℕ) (d : Hinge) → i < l.many → (slice_index_or hs i d).at ≤ g
  pub high : (i : ℕ) (d : Hinge) → l.many ≤ i → i < length hs → e ≤ (slice_index_or hs i d).at
  pub net : l.net ≡ bends (take l.many hs) g
  pub slope : l.slope ≡ turns (take l.many hs) g

-- just those up to g are not undone
abbrev pub SweepAt : List Hinge → ℕ → Sweep → Type 0
SweepAt hs g l = Reached hs g (suc g) l

-- some of those at g may be undone
abbrev pub UndoneAt : List Hinge → ℕ → Sweep → Type 0
UndoneAt hs g l = Reached hs g g l

-- back from the end of a segment, where just those up to it are not undone, to its beginning, where none of them is undone yet
abbrev pub BackTo : Sweep → Segment → Sweep → Type 0
BackTo l s r = (hs : List Hinge) (g : ℕ) → Ordered hs → SweepAt hs g l → s ≡ segment_by (sum_of hs g) g → UndoneAt hs s.from r

-- without the last, if that is at g; none, just where all are below g
abbrev pub Fewer : List Hinge → ℕ → Sweep → Option Sweep → Type 0
Fewer hs g l None = (i : ℕ) (d : Hinge) → i < l.many → (slice_index_or hs i d).at < g
Fewer hs g l (Some r) = UndoneAt hs g r × (r.many < l.many)

-- room to go on adding up
abbrev pub Room : Sweep → Type 0
Room l = (unsigned_abs l.net ≤ 4053000000000000) × (unsigned_abs l.slope ≤ 3860000)
