-- Segments of a book: one by one, and all of them. Definitions only: nothing is assumed.
use Rattle.std.specs.Prelude.{◌≡◌, ℕ, zero, suc, ◌+◌, ◌*◌, ◌<◌, ◌≤◌, Bool, false, ◌&&◌, List, [], ◌∷◌, length, ℤ, Some, None, Option, nat_le, nat_lt, int_lt, unsigned_abs}
use Rattle.std.specs.List.{AllByRecursion}
use Rattle.raise.specs.Rules.{pick, Rule}
use Rattle.raise.specs.Net.{net, on_line, Straight, breakpoints, slope}
use Rattle.segments.specs.declared.lines.Segment.{Segment}
use Rattle.segments.specs.Points.{next_breakpoint, Next}

-- the segment from g on, up to before the next breakpoint
abbrev pub segment_at : List Rule → ℕ → ℕ → Segment
segment_at rs b g = record { from = g; to = next_breakpoint rs b g; net = net rs g; slope = slope rs g }

-- a segment of the book up to b: it is not empty, it ends at the next breakpoint or past the bound, so that none is inside, and
-- net is its line
pub record SegmentOf (rs : List Rule) (b : ℕ) (s : Segment) : Type 0 where
  pub ends : Next (breakpoints rs) s.from (suc b) s.to
  pub straight : Straight (net rs) s.from s.to s.net s.slope

-- sizes that leave room to compute with them: where the segment ends, what is left of every earning on it, and its slope
pub record Sized (s : Segment) : Type 0 where
  pub to : s.to ≤ 1000000001
  pub net : (g : ℕ) → s.from ≤ g → g < s.to → unsigned_abs (on_line s.from s.net s.slope g) ≤ 1290000000000000
  pub slope : unsigned_abs s.slope ≤ 1290000

-- the first earning of which more is left than m, on a segment that doesn't fall: of it and all after it on the segment more is,
-- of none before it; and where there is no such earning, none
abbrev pub FirstAbove : Segment → ℤ → Option ℕ → Type 0
FirstAbove s m None = (g : ℕ) → s.from ≤ g → g < s.to → int_lt m (on_line s.from s.net s.slope g) ≡ false
FirstAbove s m (Some x) = (s.from ≤ x) × (x < s.to) × ((g : ℕ) → s.from ≤ g → g < s.to → int_lt m (on_line s.from s.net s.slope g) ≡ nat_le x g)

-- ---- all segments

-- at most n segments, one after the other, from x on
unfoldable pub segments_from : List Rule → ℕ → ℕ → ℕ → List Segment
segments_from rs b zero x = []
segments_from rs b (suc n) x = pick (nat_le x b) (segment_at rs b x ∷ segments_from rs b n (next_breakpoint rs b x)) []

-- all segments of a book, in order: never more than two for each rule, and one more
abbrev pub segments : List Rule → ℕ → List Segment
segments rs b = segments_from rs b (2 * length rs + 1) 0

-- does g lie on a segment
abbrev pub on : Segment → ℕ → Bool
on s g = nat_le s.from g && nat_lt g s.to

-- on how many of them g lies
unfoldable pub how_many_on : List Segment → ℕ → ℕ
how_many_on [] g = 0
how_many_on (s ∷ ss) g = pick (on s g) 1 0 + how_many_on ss g

-- each begins where the one before it ends, the first at x, and the last ends at e
unfoldable pub Chain : List Segment → ℕ → ℕ → Type 0
Chain [] x e = x ≡ e
Chain (s ∷ ss) x e = (s.from ≡ x) × Chain ss s.to e

-- the segments cover all earnings up to the bound, without gap or overlap, and there are few
pub record Covers (rs : List Rule) (b : ℕ) (ss : List Segment) : Type 0 where
  pub once : (g : ℕ) → g ≤ b → how_many_on ss g ≡ 1
  pub none_above : (g : ℕ) → b < g → how_many_on ss g ≡ 0
  pub in_order : Chain ss 0 (suc b)
  pub each : AllByRecursion (SegmentOf rs b) ss
  pub few : length ss ≤ 2 * length rs + 1

abbrev pub SegmentsCover : Type 0
SegmentsCover = (rs : List Rule) (b : ℕ) → Covers rs b (segments rs b)
