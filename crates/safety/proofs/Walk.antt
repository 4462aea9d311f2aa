-- The walk from the bound down: all that it has passed is safe, and the next segment.
use Rattle.std.proofs.Common.{◌≡◌, ℕ, suc, ◌-◌, ◌<◌, ◌≤◌, true, false, List, ℤ, Some, None, Option, refl, ap, ◌∙◌, inl, inr, arith}
use Rattle.std.specs.Option.{is_some}
use Rattle.std.proofs.lemmas.Bool.{both_ways, cases_lt}
use Rattle.std.proofs.lemmas.Int.{ints}
use Rattle.raise.specs.Rules.{Rule, less_left}
use Rattle.raise.specs.Net.{net, breakpoints, on_line}
use Rattle.raise.specs.Laws.{SafeOn}
use Rattle.raise.specs.Lowest.{NetLine}
use Rattle.raise.proofs.Straight.{net_order, net_straight}
use Rattle.raise.proofs.Look.{outside}
use Rattle.book.specs.Held.{Within}
use Rattle.segments.specs.declared.lines.Segment.{Segment}
use Rattle.segments.specs.Segments.{SegmentOf, Sized}
use Rattle.segments.proofs.Paces.{net_small, slope_small}
use Rattle.hinges.specs.declared.hinge.Hinge.{Hinge}
use Rattle.hinges.specs.Below.{breakpoint_below}
use Rattle.hinges.specs.Hinges.{HingesOf, sum_of, segment_by}
use Rattle.hinges.proofs.Points.{breakpoints_below}
use Rattle.hinges.proofs.Tells.{segments_tell}
use Rattle.safety.specs.Less.{below_at, LastBelow, LastLess}

-- nothing is above the bound
pub begins : (rs : List Rule) (b g : ℕ) → SafeOn rs b g (suc b)
begins rs b g = λ k lo hi. absurd (omega (arith, lo, hi))

-- none is where g is not below the bound
pub none_above : (rs : List Rule) (b g : ℕ) → b ≤ g → LastLess rs b g None
none_above rs b g le = λ k lo hi. absurd (omega (arith, lo, hi, le))

-- the segment that ends with `last`: from the next breakpoint below on, past another one, with its line
pub record WholeSegment (rs : List Rule) (b : ℕ) (own : Segment) (last : ℕ) (s : Segment) : Type 0 where
  pub begins : s.from ≡ breakpoint_below rs (suc last)
  pub ends : s.to ≡ suc last
  pub past : own.to ≤ s.from
  pub line : NetLine rs b s.from s.to s.net s.slope
  pub sized : Sized s

-- a segment that ends at `last`, where another ends before
pub whole : (rs : List Rule) (b : ℕ) (hs : List Hinge) (own : Segment) (last : ℕ) (s : Segment) → HingesOf rs hs → Within rs → SegmentOf rs b own → own.to ≤ last → last ≤ b → last ≤ 1000000000 →
    s ≡ segment_by (sum_of hs last) last → WholeSegment rs b own last s
whole rs b hs own last s h w line above within low e =
    let y = breakpoint_below rs (suc last) in
    let i = breakpoints_below rs (suc last) (omega arith) in
    let t = e ∙ segments_tell rs hs last h low in
    let lo : y ≤ last = omega (arith, i.below) in
    rw t (record {
      begins = refl;
      ends = refl;
      past = elim (cases_lt y own.to) [
        | inr past ↦ past
        | inl short ↦ elim line.ends.reached [
          | inl point ↦ absurd (outside (breakpoints rs) y (suc last) own.to i.between point short (omega (arith, above)))
          | inr end ↦ absurd (omega (arith, end, above, within))
        ]
      ];
      line = record { some = i.below; within = omega (arith, within); straight = net_straight rs y (suc last) i.between };
      sized = record {
        to = omega (arith, low);
        net = λ k a z. rw (← net_straight rs y (suc last) i.between k a z) (net_small rs k w (omega (arith, z, low)));
        slope = slope_small rs y w;
      };
    })

module _ {rs : List Rule} {b last : ℕ} (g : ℕ) (safe : SafeOn rs b g (suc last)) (m : ℤ) (sweep : m ≡ net rs g) where
  here : (s : Segment) → NetLine rs b s.from s.to s.net s.slope → (k : ℕ) → s.from ≤ k → k < s.to → less_left rs g k ≡ below_at s m k
  here s line k lo hi = net_order rs g k ∙ rw (← line.straight k lo hi, ← sweep) refl

  -- one segment more, beyond which all is safe
  module _ {own : Segment} (past : g < own.to) (s : Segment) (i : WholeSegment rs b own last s) where
    beyond : (k : ℕ) → s.to ≤ k → k ≤ b → less_left rs g k ≡ false
    beyond k lo hi = safe k (omega (arith, lo, i.ends)) hi

    pub found : (o : Option ℕ) → is_some o ≡ true → LastBelow s m o → LastLess rs b g o
    found None some l = absurd (both_ways false refl some)
    found (Some x) some (lo, hi, less, after) = (
      omega (arith, lo, past, i.past),
      omega (arith, hi, i.line.within),
      here s i.line x lo hi ∙ less,
      λ k next le. elim (cases_lt k s.to) [ inl on ↦ here s i.line k (omega (arith, next, lo)) on ∙ after k next on | inr off ↦ beyond k off le ],
    )

    pub passes : (o : Option ℕ) → is_some o ≡ false → LastBelow s m o → SafeOn rs b g (suc (s.from - 1))
    passes (Some x) none l k lo le = absurd (both_ways true none refl)
    passes None none l k lo le =
        elim (cases_lt k s.to) [
          | inl on ↦ let from : s.from ≤ k = omega (arith, lo, past, i.past) in here s i.line k from on ∙ l k from on
          | inr off ↦ beyond k off le
        ]

  -- its own segment, beyond which all is safe
  module _ (own : Segment) (begin : own.from ≡ g) (net_is : own.net ≡ m) (line : NetLine rs b own.from own.to own.net own.slope) (ends : own.to ≡ suc last) where
    after_own : (k : ℕ) → own.to ≤ k → k ≤ b → less_left rs g k ≡ false
    after_own k lo hi = safe k (omega (arith, lo, ends)) hi

    itself : below_at own m own.from ≡ false
    itself =
        let z : own.from - own.from ≡ 0 = omega arith in
        let o : on_line own.from own.net own.slope own.from ≡ m = rw z (omega (arith, ints, net_is)) in
        rw o (grind (arith, ints))

    pub last_own : (o : Option ℕ) → LastBelow own m o → LastLess rs b g o
    last_own None l = λ k lo hi. elim (cases_lt k own.to) [ inl on ↦ here own line k (omega (arith, lo, begin)) on ∙ l k (omega (arith, lo, begin)) on | inr off ↦ after_own k off hi ]
    last_own (Some x) (lo, hi, less, after) = (
      elim (cases_lt g x) [ inl more ↦ more | inr not ↦ absurd (let e : x ≡ own.from = omega (arith, not, lo, begin) in both_ways (below_at own m x) (ap (below_at own m) e ∙ itself) less) ],
      omega (arith, hi, line.within),
      here own line x lo hi ∙ less,
      λ k next le. elim (cases_lt k own.to) [ inl on ↦ here own line k (omega (arith, next, lo)) on ∙ after k next on | inr off ↦ after_own k off le ],
    )
