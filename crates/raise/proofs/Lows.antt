-- The lowest net of many earnings: what it says, how it goes down a line, and who loses by it.
use Rattle.std.proofs.Common.{◌≡◌, ℕ, zero, suc, ◌+◌, ◌-◌, ◌<◌, ◌≤◌, true, false, ◌&&◌, ltb, ◌⊎◌, List, Decides, ℤ, pos, negsuc, ◌≤ℤ◌, ◌<ℤ◌, Some, None, Option, sym, refl, ap, ◌∙◌, inl, inr, arith}
use lib.Signed.{lt_z}
use Rattle.std.specs.Int.{int_min}
use Rattle.std.proofs.lemmas.Int.{ints, int_min_is}
use Rattle.std.proofs.lemmas.Bool.{both_ways, or_cases, or_left, or_right, and_parts, and_from, cases_lt, cases_eq, cases_Bool, ltb-true, lt-ltb}
use Rattle.std.proofs.lemmas.Bool.Decides.{same_from_decides}
use Rattle.raise.specs.Rules.{Rule, loses}
use Rattle.raise.specs.Net.{net, on_line, Straight}
use Rattle.raise.specs.Lowest.{lesser_of, least_over, lowest_from, Lowest, NetLine, lowest_with, lower_than, loses_at}
use Rattle.raise.proofs.Search.{lost}
use Rattle.raise.proofs.Lines.{rises, falls}
use Rattle.raise.proofs.Straight.{net_order}

-- ---- the lesser of two

-- it is one of them, and above neither
one_of : (x y : ℤ) → (int_min x y ≡ x) ⊎ (int_min x y ≡ y)
one_of x y = elim (cases_Bool (lt_z y x)) [ inl t ↦ inr (rw t refl) | inr t ↦ inl (rw t refl) ]

min_under : (x y : ℤ) → (int_min x y ≤ℤ x) × (int_min x y ≤ℤ y)
min_under x y = (omega (arith, ints, int_min_is x y), omega (arith, ints, int_min_is x y))

-- ---- what the least of many says

-- one more before the others
more : (f : ℕ → ℤ) (x e : ℕ) (m : Option ℤ) → x < e → Lowest f (suc x) e m → Lowest f x e (Some (lesser_of (f x) m))
more f x e None lt l = (λ h lo hi. let s : h ≡ x = omega arith in rw s (omega (arith, ints)), (x, omega arith, lt, refl))
more f x e (Some m) lt l =
    let u = min_under (f x) m in
    let i = l.1 in (
      λ h lo hi. elim (cases_eq h x) [
        | inl same ↦ rw same u.0
        | inr other ↦ let b = l.0 h (omega arith) hi in omega (arith, ints, u.1, b)
      ],
      elim (one_of (f x) m) [
        | inl t ↦ (x, omega arith, lt, sym t)
        | inr t ↦ (i.0, omega (arith, i.1), i.2, i.3 ∙ sym t)
      ],
    )

lowest_over : (f : ℕ → ℤ) (n x e : ℕ) → e ≡ x + n → Lowest f x e (least_over f n x)
unfolding least_over
lowest_over f zero x e s = omega arith
lowest_over f (suc n) x e s = more f x e (least_over f n (suc x)) (omega arith) (lowest_over f n (suc x) e (omega arith))

pub lowest_is : (rs : List Rule) (b x : ℕ) → Lowest (net rs) x (suc b) (lowest_from rs b x)
unfolding least_over
lowest_is rs b x =
    elim (cases_lt b x) [
      | inl past ↦ let z : suc b - x ≡ 0 = omega arith in rw z (omega arith)
      | inr within ↦ lowest_over (net rs) (suc b - x) x (suc b) (omega arith)
    ]

-- and nothing else says that
pub only : (f : ℕ → ℤ) (x e : ℕ) (m n : Option ℤ) → Lowest f x e m → Lowest f x e n → m ≡ n
only f x e None None l k = refl
only f x e None (Some n) l k = let i = k.1 in absurd (omega (arith, l, i.1, i.2))
only f x e (Some m) None l k = let i = l.1 in absurd (omega (arith, k, i.1, i.2))
only f x e (Some m) (Some n) l k =
    let i = l.1 in
    let j = k.1 in
    let p : m ≤ℤ n = rw j.3 at (l.0 j.0 j.1 j.2) in
    let q : n ≤ℤ m = rw i.3 at (k.0 i.0 i.1 i.2) in
    ap Some (omega (arith, ints, p, q))

-- ---- down a line

module _ (f : ℕ → ℤ) (from to e : ℕ) (v d : ℤ) (some : from < to) (within : to ≤ e) (s : Straight f from to v d) where
  at_from : f from ≡ v
  at_from = let z : from - from ≡ 0 = omega arith in s from (omega arith) some ∙ rw z (omega (arith, ints))

  at_last : f (to - 1) ≡ on_line from v d (to - 1)
  at_last = s (to - 1) (omega arith) (omega arith)

  abbrev pub least_on : ℤ
  least_on = int_min v (on_line from v d (to - 1))

  -- a line is least at one of its ends
  pub ends_under : (h : ℕ) → from ≤ h → h < to → least_on ≤ℤ f h
  ends_under h lo hi = by_slope d refl
    where
      by_slope : (c : ℤ) → d ≡ c → least_on ≤ℤ f h
      by_slope (pos r) c =
          let z : from - from ≡ 0 = omega arith in
          let u = min_under v (on_line from v d (to - 1)) in
          let y = rises from from h v r (omega arith) lo in
          let w : f h ≡ on_line from v (pos r) h = rw c at (s h lo hi) in
          omega (arith, ints, z, u.0, y, w)
      by_slope (negsuc r) c =
          let u = rw c at (min_under v (on_line from v d (to - 1))).1 in
          let y = falls from h (to - 1) v r lo (omega arith) in
          let w : f h ≡ on_line from v (negsuc r) h = rw c at (s h lo hi) in
          rw c (omega (arith, ints, u, y, w))

  reached : (h : ℕ) × (from ≤ h) × (h < to) × (f h ≡ least_on)
  reached =
      elim (one_of v (on_line from v d (to - 1))) [
        | inl t ↦ (from, omega arith, some, at_from ∙ sym t)
        | inr t ↦ (to - 1, omega arith, omega arith, at_last ∙ sym t)
      ]

  lower : (m : Option ℤ) → Lowest f to e m → Lowest f from e (Some (lesser_of least_on m))
  lower None l = let r = reached in (λ h lo hi. ends_under h lo (omega arith), (r.0, r.1, omega (arith, r.2), r.3))
  lower (Some m) l =
      let r = reached in
      let i = l.1 in
      let u = min_under least_on m in (
        λ h lo hi. elim (cases_lt h to) [
          | inl here ↦ let b = ends_under h lo here in omega (arith, ints, u.0, b)
          | inr beyond ↦ let b = l.0 h beyond hi in omega (arith, ints, u.1, b)
        ],
        elim (one_of least_on m) [
          | inl t ↦ (r.0, r.1, omega (arith, r.2), r.3 ∙ sym t)
          | inr t ↦ (i.0, omega (arith, i.1), i.2, i.3 ∙ sym t)
        ],
      )

pub lowest_down : (rs : List Rule) (b from to : ℕ) (v d : ℤ) → NetLine rs b from to v d → lowest_from rs b from ≡ Some (lowest_with from to v d (lowest_from rs b to))
lowest_down rs b from to v d l =
    only (net rs) from (suc b) _ _ (lowest_is rs b from) (lower (net rs) from to (suc b) v d l.some l.within l.straight (lowest_from rs b to) (lowest_is rs b to))

-- ---- who loses

module _ (f : ℕ → ℤ) (e from to : ℕ) (v : ℤ) where
  abbrev pub Lost : ℕ → Type 0
  Lost g = (h : ℕ) × (g < h) × (h < e) × (f h <ℤ f g)

  -- by what lies beyond
  by_lowest : (m : Option ℤ) (g : ℕ) → Lowest f to e m → g < to → lower_than m (f g) ≡ true → Lost g
  by_lowest None g l lt t = absurd (both_ways false refl t)
  by_lowest (Some m) g l lt t = let i = l.1 in (i.0, omega (arith, i.1), i.2, omega (arith, ints, i.3, t))

  lowest_by : (m : Option ℤ) (g h : ℕ) → Lowest f to e m → to ≤ h → h < e → f h <ℤ f g → lower_than m (f g) ≡ true
  lowest_by None g h l lo hi t = absurd (omega arith)
  lowest_by (Some m) g h l lo hi t = let i = l.0 h lo hi in grind (arith, ints)

  -- by the next unit, or by another of the same line
  by_next : (d : ℤ) (g : ℕ) → Straight f from to v d → to ≤ e → from ≤ g → lt_z d (pos 0) ≡ true → suc g < to → Lost g
  by_next (pos r) g s within lo n lt = absurd (omega (arith, ints, n))
  by_next (negsuc r) g s within lo n lt =
      let k : suc g - from ≡ suc (g - from) = omega arith in
      let a = s g lo (omega arith) in
      let z = s (suc g) (omega arith) lt in
      let w = rw k at z in
      (suc g, omega arith, omega arith, omega (arith, ints, a, w))

  next_by : (d : ℤ) (g h : ℕ) → Straight f from to v d → from ≤ g → g < h → h < to → f h <ℤ f g → lt_z d (pos 0) ≡ true
  next_by (pos r) g h s lo lt hi t =
      let y = rises from g h v r lo (omega arith) in
      let a = s g lo (omega arith) in
      let z = s h (omega arith) hi in
      absurd (omega (arith, ints, y, a, z, t))
  next_by (negsuc r) g h s lo lt hi t = refl

  tells : (d : ℤ) (m : Option ℤ) → to ≤ e → Straight f from to v d → Lowest f to e m → (g : ℕ) → from ≤ g → g < to → Decides (loses_at from to v d m g) (Lost g)
  tells d m within s l g lo lt = (
    λ t. elim (or_cases (lt_z d (pos 0) && ltb (suc g) to) (lower_than m (on_line from v d g)) t) [
      | inl n ↦ let p = and_parts (lt_z d (pos 0)) (ltb (suc g) to) n in by_next d g s within lo p.0 (ltb-true _ _ p.1)
      | inr u ↦ by_lowest m g l lt (rw (s g lo lt) u)
    ],
    λ i. elim (cases_lt i.0 to) [
      | inl inside ↦ or_left _ _ (and_from _ _ (next_by d g i.0 s lo i.1 inside i.3) (lt-ltb _ _ (omega (arith, i.1))))
      | inr beyond ↦ or_right (lt_z d (pos 0) && ltb (suc g) to) _ (rw (← s g lo lt) (lowest_by m g i.0 l beyond i.2 i.3))
    ],
  )

pub loses_on_a_line : (rs : List Rule) (b from to : ℕ) (v d : ℤ) → NetLine rs b from to v d →
    (g : ℕ) → from ≤ g → g < to → loses rs b g ≡ loses_at from to v d (lowest_from rs b to) g
loses_on_a_line rs b from to v d l g lo lt =
    let t = tells (net rs) (suc b) from to v d (lowest_from rs b to) l.within l.straight (lowest_is rs b to) g lo lt in
    same_from_decides _ _ (lost rs b g) (
      λ p. let i = t.0 p in (i.0, i.1, omega (arith, i.2), net_order rs g i.0 ∙ grind (arith, ints, i.3)),
      λ i. t.1 (i.0, i.1, omega (arith, i.2), omega (arith, ints, ltb-true _ _ i.3)),
    )
