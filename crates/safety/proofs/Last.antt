-- The last earning on a line of which less than so much is left.
use Rattle.std.proofs.Common.{◌≡◌, ℕ, ◌-◌, ◌<◌, ◌≤◌, true, false, not, leb, ℤ, pos, negsuc, ◌-ℤ◌, ◌≤ℤ◌, ◌<ℤ◌, Some, None, refl, ap, ◌∙◌, arith}
use lib.Signed.{lt_z}
use Rattle.std.specs.Int.{int_min}
use Rattle.std.proofs.lemmas.Int.{ints, int_min_is}
use Rattle.std.proofs.lemmas.Bool.{le-leb, lt-leb, leb-false}
use Rattle.raise.specs.Net.{on_line}
use Rattle.raise.proofs.Lines.{falls}
use Rattle.raise.proofs.Lows.{ends_under}
use Rattle.segments.specs.declared.lines.Segment.{Segment}
use Rattle.segments.specs.Segments.{FirstAbove}
use Rattle.safety.specs.Less.{below_at, LastBelow}

-- less than m is not more than one under it
not_below : (m x : ℤ) → lt_z x m ≡ not (lt_z (m -ℤ pos 1) x)
not_below m x = grind (arith, ints)

as_much : (m x : ℤ) → m ≤ℤ x → lt_z x m ≡ false
as_much m x le = grind (arith, ints, le)

module _ (s : Segment) (m : ℤ) (some : s.from < s.to) where
  -- where neither end is below, nothing is
  pub none_below : (z : ℤ) → z ≡ on_line s.from s.net s.slope (s.to - 1) → (z <ℤ m → ⊥) → m ≤ℤ s.net → LastBelow s m None
  none_below z e last first g lo hi =
      let x = on_line s.from s.net s.slope (s.to - 1) in
      let u = ends_under (on_line s.from s.net s.slope) s.from s.to s.to s.net s.slope some (omega arith) (λ h lo hi. refl) g lo hi in
      let l : m ≤ℤ z = grind (arith, ints, last) in
      let i : m ≤ℤ int_min s.net x = omega (arith, ints, int_min_is s.net x, l, first, e) in
      as_much m (on_line s.from s.net s.slope g) (omega (arith, ints, u, i))

  -- where it begins below and ends not below, it rises
  pub rises : (z : ℤ) → z ≡ on_line s.from s.net s.slope (s.to - 1) → m ≤ℤ z → s.net <ℤ m → pos 0 ≤ℤ s.slope
  rises z e last begins = by_slope s.slope refl
    where
      by_slope : (c : ℤ) → s.slope ≡ c → pos 0 ≤ℤ c
      by_slope (pos r) c = omega (arith, ints)
      by_slope (negsuc r) c =
          let k : s.from - s.from ≡ 0 = omega arith in
          let d = falls s.from s.from (s.to - 1) s.net r (omega arith) (omega arith) in
          let w : z ≡ on_line s.from s.net (negsuc r) (s.to - 1) = rw c at e in
          absurd (omega (arith, ints, k, d, w, last, begins))

  -- and the first that is not below has one before it, the last that is
  module _ (x : ℕ) (first : FirstAbove s (m -ℤ pos 1) (Some x)) (begins : s.net <ℤ m) where
    below : (g : ℕ) → s.from ≤ g → g < s.to → below_at s m g ≡ not (leb x g)
    below g lo hi = not_below m (on_line s.from s.net s.slope g) ∙ ap not (first.2 g lo hi)

    at_from : below_at s m s.from ≡ true
    at_from = let z : s.from - s.from ≡ 0 = omega arith in rw z (grind (arith, ints, begins))

    pub past_from : s.from < x
    past_from = leb-false x s.from (grind (arith, below s.from (omega arith) some, at_from))

    pub before_first : LastBelow s m (Some (x - 1))
    before_first = (
      omega (arith, past_from),
      omega (arith, past_from, first.1),
      below (x - 1) (omega (arith, past_from)) (omega (arith, past_from, first.1)) ∙ ap not (lt-leb x (x - 1) (omega (arith, past_from))),
      λ g lo hi. below g (omega (arith, lo, past_from)) hi ∙ ap not (le-leb x g (omega (arith, lo, past_from))),
    )
