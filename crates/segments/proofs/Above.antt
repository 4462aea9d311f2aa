-- The first earning on a line that doesn't fall of which more is left than so much.
use Rattle.std.proofs.Common.{◌≡◌, ℕ, ◌+◌, ◌-◌, ◌*◌, ◌/◌, ◌<◌, ◌≤◌, true, false, leb, ℤ, pos, negsuc, ◌+ℤ◌, ◌-ℤ◌, ◌≤ℤ◌, nat_abs, min, Some, None, sym, ◌∙◌, inl, inr, arith}
use lib.Signed.{lt_z}
use Rattle.std.proofs.lemmas.Int.{ints}
use Rattle.std.proofs.lemmas.Bool.{cases_lt, le-leb, lt-leb}
use Rattle.std.proofs.Math.Nat.{div-lt_iff_lt-mul}
use Rattle.raise.specs.Net.{on_line}
use Rattle.segments.specs.declared.lines.Segment.{Segment}
use Rattle.segments.specs.Segments.{FirstAbove}

-- on such a line more is left than m, which is not less than v, from the first unit on that brings more than what is missing
module _ (v m : ℤ) (le : v ≤ℤ m) where
  above : (n : ℕ) → nat_abs (m -ℤ v) < n → lt_z m (v +ℤ pos n) ≡ true
  above n lt = grind (arith, ints, lt, le)

  not_above : (n : ℕ) → n ≤ nat_abs (m -ℤ v) → lt_z m (v +ℤ pos n) ≡ false
  not_above n few = grind (arith, ints, few, le)

-- so the first of which more is left is one past all steps that bring no more than that
above_from : (s : Segment) (m : ℤ) (n d k : ℕ) → s.net ≤ℤ m → pos 0 ≤ℤ s.slope → n ≡ nat_abs (m -ℤ s.net) → d ≡ nat_abs s.slope → 0 < d → k ≡ n / d →
    (g : ℕ) → s.from ≤ g → lt_z m (on_line s.from s.net s.slope g) ≡ leb (s.from + k + 1) g
above_from s m n d k le rises e f some q g lo = by_slope s.slope rises f
  where
    by_slope : (c : ℤ) → pos 0 ≤ℤ c → d ≡ nat_abs c → lt_z m (on_line s.from s.net c g) ≡ leb (s.from + k + 1) g
    by_slope (negsuc r) up z = absurd (omega (arith, ints, up))
    by_slope (pos r) up z =
        let j = g - s.from in
        let t = div-lt_iff_lt-mul {k = d} {x = n} {y = j} some in
        elim (cases_lt k j) [
          | inl past ↦
              let p : n < j * r = rw z at (t.0 (omega (arith, past, q))) in
              above s.net m le (r * j) (omega (arith, p, e)) ∙ sym (le-leb (s.from + k + 1) g (omega (arith, past, lo)))
          | inr within ↦
              let f : j * d ≤ n = elim (cases_lt n (j * d)) [ inl more ↦ absurd (omega (arith, t.1 more, q, within)) | inr not ↦ not ] in
              let p : j * r ≤ n = rw z at f in
              not_above s.net m le (r * j) (omega (arith, p, e)) ∙ sym (lt-leb (s.from + k + 1) g (omega (arith, within, lo)))
        ]

-- it is on the segment, or there is none there
module _ (s : Segment) (m : ℤ) (n d k first : ℕ) (le : s.net ≤ℤ m) (rises : pos 0 ≤ℤ s.slope) (e : n ≡ nat_abs (m -ℤ s.net)) (f : d ≡ nat_abs s.slope) (some : 0 < d) (q : k ≡ n / d)
    (is : first ≡ min (s.from + k + 1) 18446744073709551615) (low : s.to < 4294967296) where
  pub found_above : first < s.to → FirstAbove s m (Some first)
  found_above lt =
      let x : first ≡ s.from + k + 1 = omega (arith, is, lt, low) in
      (omega (arith, x), lt, λ g lo hi. rw x (above_from s m n d k le rises e f some q g lo))

  pub none_above : s.to ≤ first → FirstAbove s m None
  none_above past = λ g lo hi. above_from s m n d k le rises e f some q g lo ∙ lt-leb (s.from + k + 1) g (omega (arith, is, past, hi, low))
