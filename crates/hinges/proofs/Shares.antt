-- The hinges of a rule add up to its share, and to its pace where it holds.
use Rattle.std.proofs.Common.{◌≡◌, ℕ, zero, suc, ◌+◌, ◌-◌, ◌*◌, ◌/◌, ◌%◌, ◌<◌, ◌≤◌, Bool, true, false, ◌&&◌, ltb, leb, ◌∷◌, ℤ, pos, negsuc, ◌+ℤ◌, ◌-ℤ◌, ◌*ℤ◌, neg_ℤ, min, ap, ◌∙◌, inl, inr, div-lt_iff_lt-mul, le-div_iff_mul-le, mul-add, arith}
use Rattle.std.proofs.lemmas.Nat.{div-add-mod'}
use Rattle.std.proofs.lemmas.Int.{ints}
use Rattle.std.proofs.lemmas.Bool.{cases_lt, le-leb, lt-leb, lt-ltb, le-ltb}
use Rattle.std.proofs.lemmas.Bool.Decides.{nat_tests}
use Rattle.raise.specs.Rules.{pick, lesser, Rule, takes, gives, takes_sum, gives_sum, fades, plus, minus}
use Rattle.raise.specs.Calls.{fine}
use Rattle.raise.specs.Net.{share, slope_by}
use lib.IntN.{zero-*ℤ}
use Rattle.raise.proofs.Straight.{minus_times}
use Rattle.hinges.specs.declared.hinge.Hinge.{Hinge}
use Rattle.hinges.specs.Hinges.{bends, turns, stretch, last_gross, faded, hinges_of}

-- ---- products

pub times_more : (p : ℤ) (m n : ℕ) → p *ℤ pos (m + n) ≡ (p *ℤ pos m) +ℤ (p *ℤ pos n)
times_more (pos r) m n = omega (arith, ints, mul-add r m n)
times_more (negsuc r) m n = omega (arith, ints, mul-add (suc r) m n)

neg_times : (p : ℤ) (k : ℕ) → neg_ℤ p *ℤ pos k ≡ neg_ℤ (p *ℤ pos k)
neg_times (pos r) k = omega (arith, ints, minus_times r k)
neg_times (negsuc r) k = omega (arith, ints)

-- ---- what begins at one border and ends at another

module _ (a b : ℕ) (lt : a < b) (z p : ℤ) (g : ℕ) where
  abbrev pub h : Hinge
  h = record { at = a; jump = z; pace = p }

  pub stretch_bends : bends (stretch h b) g ≡ pick (leb a g && ltb g b) z (pos 0) +ℤ (p *ℤ pos (lesser g b - a))
  unfolding bends
  stretch_bends =
      elim (cases_lt g a) [
        | inl under ↦
            let t : leb a g ≡ false = lt-leb a g under in
            let u : leb b g ≡ false = lt-leb b g (omega (arith, under, lt)) in
            let w : leb g b ≡ true = le-leb g b (omega (arith, under, lt)) in
            let n : g - a ≡ 0 = omega (arith, under) in
            rw (t, u, w, n) (omega (arith, ints))
        | inr begun ↦ elim (cases_lt g b) [
          | inl on ↦
              let t : leb a g ≡ true = le-leb a g begun in
              let u : leb b g ≡ false = lt-leb b g on in
              let v : ltb g b ≡ true = lt-ltb g b on in
              let w : leb g b ≡ true = le-leb g b (omega (arith, on)) in
              rw (t, u, v, w) (omega (arith, ints))
          | inr past ↦
              let t : leb a g ≡ true = le-leb a g begun in
              let u : leb b g ≡ true = le-leb b g past in
              let v : ltb g b ≡ false = le-ltb g b past in
              let n : g - a ≡ (b - a) + (g - b) = omega (arith, past, lt) in
              let l : lesser g b ≡ b = grind arith in
              rw (t, u, v, l, n) (omega (arith, ints, times_more p (b - a) (g - b), neg_times p (g - b)))
        ]
      ]

  pub stretch_turns : turns (stretch h b) g ≡ pick (leb a g && ltb g b) p (pos 0)
  unfolding turns
  stretch_turns =
      elim (cases_lt g a) [
        | inl under ↦
            let t : leb a g ≡ false = lt-leb a g under in
            let u : leb b g ≡ false = lt-leb b g (omega (arith, under, lt)) in
            rw (t, u) (omega (arith, ints))
        | inr begun ↦ elim (cases_lt g b) [
          | inl on ↦
              let t : leb a g ≡ true = le-leb a g begun in
              let u : leb b g ≡ false = lt-leb b g on in
              let v : ltb g b ≡ true = lt-ltb g b on in
              rw (t, u, v) (omega (arith, ints))
          | inr past ↦
              let t : leb a g ≡ true = le-leb a g begun in
              let u : leb b g ≡ true = le-leb b g past in
              let v : ltb g b ≡ false = le-ltb g b past in
              rw (t, u, v) (omega (arith, ints))
        ]
      ]

-- ---- a fade

-- before it is used up, from there on, and how fast it goes down
module _ (a r m g : ℕ) (low : g < last_gross) where
  abbrev end : ℕ
  end = suc (a + m / suc r)

  rest : m ≡ suc r * (m / suc r) + m % suc r
  rest = omega (arith, div-add-mod' m (suc r))

  still : g < end → (leb (min end last_gross) g ≡ false) × (suc r * (g - a) ≤ m)
  still on =
      let d : (g - a) * suc r ≤ m = (le-div_iff_mul-le {k = suc r} {x = g - a} {y = m} (omega arith)).0 (omega (arith, on)) in
      (lt-leb _ _ (omega (arith, on, low)), omega (arith, d))

  past : end ≤ g → (leb (min end last_gross) g ≡ true) × (min end last_gross ≡ end) × (m < suc r * (g - a)) × (suc r * (g - a) ≡ suc r * suc (m / suc r) + suc r * (g - end))
  past off =
      let e : min end last_gross ≡ end = omega (arith, off, low) in
      let d : m < (g - a) * suc r = (div-lt_iff_lt-mul {k = suc r} {x = m} {y = g - a} (omega arith)).0 (omega (arith, off)) in
      let n : g - a ≡ suc (m / suc r) + (g - end) = omega (arith, off) in
      (le-leb _ _ (omega (arith, e, off)), e, omega (arith, d), ap (λ (k : ℕ). suc r * k) n ∙ mul-add (suc r) (suc (m / suc r)) (g - end))

  -- the line down, which is at 0 below a
  down : (suc r * (g - a) ≤ m) → pos m +ℤ (pick (leb a g) (pos 0 +ℤ (neg_ℤ (pos (suc r)) *ℤ pos (g - a))) (pos 0) +ℤ pos 0) ≡ pos (m - suc r * (g - a))
  down le =
      elim (cases_lt g a) [
        | inl under ↦
            let t : leb a g ≡ false = lt-leb a g under in
            let n : g - a ≡ 0 = omega (arith, under) in
            let z : suc r * 0 ≡ 0 = omega arith in
            rw (t, n, z) (omega (arith, ints))
        | inr begun ↦ let t : leb a g ≡ true = le-leb a g begun in rw t (omega (arith, ints, minus_times (suc r) (g - a), le))
      ]

-- its line down is m less what was taken of it, and what it is below nothing is given back
fade_bends : (a r m g : ℕ) → g < last_gross →
    bends (record { at = 0; jump = pos m; pace = pos 0 } ∷ (record { at = a; jump = pos 0; pace = neg_ℤ (pos r) } ∷ faded a r m)) g ≡ pos (m - r * (g - a))
unfolding bends
fade_bends a zero m g low = let t : leb 0 g ≡ true = le-leb 0 g (omega arith) in rw t (flat (leb a g))
  where
    flat : (t : Bool) → (pos m +ℤ (pos 0 *ℤ pos (g - 0))) +ℤ (pick t (pos 0 +ℤ (neg_ℤ (pos 0) *ℤ pos (g - a))) (pos 0) +ℤ pos 0) ≡ pos (m - 0 * (g - a))
    flat true = omega (arith, ints, zero-*ℤ (pos (g - a)))
    flat false = omega (arith, ints)
fade_bends a (suc r) m g low =
    let z : leb 0 g ≡ true = le-leb 0 g (omega arith) in
    elim (cases_lt g (end a r m g low)) [
      | inl on ↦ let s = still a r m g low on in let d = down a r m g low s.1 in rw (z, s.0) (omega (arith, ints, d))
      | inr off ↦
          let s = past a r m g low off in
          let t : leb a g ≡ true = le-leb a g (omega (arith, off)) in
          rw (z, s.0, s.1, t) (omega (arith, ints, minus_times (suc r) (g - a), s.2, s.3, rest a r m g low))
    ]

fade_turns : (a r s g : ℕ) → g < last_gross →
    turns (record { at = 0; jump = pos (10000 * s); pace = pos 0 } ∷ (record { at = a; jump = pos 0; pace = neg_ℤ (pos r) } ∷ faded a r (10000 * s))) g ≡ slope_by (fades a r s) g
unfolding turns
fade_turns a zero s g low = let z : leb 0 g ≡ true = le-leb 0 g (omega arith) in rw z (omega (arith, ints))
fade_turns a (suc r) s g low =
    let z : leb 0 g ≡ true = le-leb 0 g (omega arith) in
    let m = 10000 * s in
    elim (cases_lt g (end a r m g low)) [
      | inl on ↦ let i = still a r m g low on in let u : leb g (a + m / suc r) ≡ true = le-leb _ _ (omega (arith, on)) in rw (z, i.0, u) (both (leb a g))
      | inr off ↦
          let i = past a r m g low off in
          let t : leb a g ≡ true = le-leb a g (omega (arith, off)) in
          let u : leb g (a + m / suc r) ≡ false = lt-leb _ _ (omega (arith, off)) in
          rw (z, i.0, t, u) (omega (arith, ints))
    ]
  where
    both : (t : Bool) → pos 0 +ℤ (pick t (neg_ℤ (pos (suc r))) (pos 0) +ℤ (pos 0 +ℤ pos 0)) ≡ pick (t && true) (neg_ℤ (pos (suc r))) (pos 0)
    both true = omega (arith, ints)
    both false = omega (arith, ints)

-- ---- each rule

pub share_is : (r : Rule) (g : ℕ) → fine r ≡ true → g < last_gross → bends (hinges_of r) g ≡ share r g
unfolding fine plus minus
share_is (takes a b r) g h low = stretch_bends a b (grind (arith, nat_tests)) (pos 0) (neg_ℤ (pos r)) g ∙ picked (leb a g && ltb g b)
  where
    picked : (t : Bool) → pick t (pos 0) (pos 0) +ℤ (neg_ℤ (pos r) *ℤ pos (lesser g b - a)) ≡ pos 0 -ℤ pos (r * (lesser g b - a))
    picked true = omega (arith, ints, minus_times r (lesser g b - a))
    picked false = omega (arith, ints, minus_times r (lesser g b - a))
share_is (gives a b r) g h low = stretch_bends a b (grind (arith, nat_tests)) (pos 0) (pos r) g ∙ picked (leb a g && ltb g b)
  where
    picked : (t : Bool) → pick t (pos 0) (pos 0) +ℤ (pos r *ℤ pos (lesser g b - a)) ≡ pos (r * (lesser g b - a)) -ℤ pos 0
    picked true = omega (arith, ints)
    picked false = omega (arith, ints)
share_is (takes_sum a b s) g h low = stretch_bends a b (grind (arith, nat_tests)) (neg_ℤ (pos (10000 * s))) (pos 0) g ∙ picked (leb a g && ltb g b)
  where
    picked : (t : Bool) → pick t (neg_ℤ (pos (10000 * s))) (pos 0) +ℤ (pos 0 *ℤ pos (lesser g b - a)) ≡ pos 0 -ℤ pos (pick t (10000 * s) 0)
    picked true = omega (arith, ints, zero-*ℤ (pos (lesser g b - a)))
    picked false = omega (arith, ints, zero-*ℤ (pos (lesser g b - a)))
share_is (gives_sum a b s) g h low = stretch_bends a b (grind (arith, nat_tests)) (pos (10000 * s)) (pos 0) g ∙ picked (leb a g && ltb g b)
  where
    picked : (t : Bool) → pick t (pos (10000 * s)) (pos 0) +ℤ (pos 0 *ℤ pos (lesser g b - a)) ≡ pos (pick t (10000 * s) 0) -ℤ pos 0
    picked true = omega (arith, ints, zero-*ℤ (pos (lesser g b - a)))
    picked false = omega (arith, ints, zero-*ℤ (pos (lesser g b - a)))
share_is (fades a r s) g h low = fade_bends a r (10000 * s) g low ∙ omega (arith, ints)

pub slope_is : (r : Rule) (g : ℕ) → fine r ≡ true → g < last_gross → turns (hinges_of r) g ≡ slope_by r g
unfolding fine
slope_is (takes a b r) g h low = stretch_turns a b (grind (arith, nat_tests)) (pos 0) (neg_ℤ (pos r)) g
slope_is (gives a b r) g h low = stretch_turns a b (grind (arith, nat_tests)) (pos 0) (pos r) g
slope_is (takes_sum a b s) g h low = stretch_turns a b (grind (arith, nat_tests)) (neg_ℤ (pos (10000 * s))) (pos 0) g
slope_is (gives_sum a b s) g h low = stretch_turns a b (grind (arith, nat_tests)) (pos (10000 * s)) (pos 0) g
slope_is (fades a r s) g h low = fade_turns a r s g low
