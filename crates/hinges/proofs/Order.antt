-- Hinges in another order say the same.
use Rattle.std.proofs.Common.{◌≡◌, ℕ, zero, suc, ◌<◌, ◌≤◌, true, eqb, List, [], ◌∷◌, ◌++◌, length, get_or, take, drop, pos, ◌-ℤ◌, sym, refl, ap, ◌∙◌, inl, inr, arith}
use borrow.Author.Differences.{up, down}
use Rattle.std.specs.List.{Contains, sum_by, refill}
use Rattle.std.specs.List.Sorted.{IsPermutation}
use Rattle.std.proofs.lemmas.List.{drop_all, take_all, append-nil}
use Rattle.std.proofs.lemmas.List.Sums.{sum_by-cons}
use Rattle.std.proofs.lemmas.List.Elements.{All-from_recursion, recursion_from_All}
use Rattle.std.proofs.lemmas.List.Sorted.{IsPermutation-sym, sum_by-IsPermutation, length_permutation, All-permutation, Contains-permutation}
use Rattle.std.proofs.lemmas.Int.{ints}
use Rattle.std.proofs.lemmas.Bool.{cases_lt, or_cases, or_left, or_right, eqb-true, eq-eqb}
use Rattle.raise.specs.Rules.{Rule}
use Rattle.raise.specs.Net.{among}
use Rattle.raise.proofs.Look.{outside}
use Rattle.hinges.specs.declared.hinge.Hinge.{Hinge}
use Rattle.hinges.specs.Below.{nearer_below, greatest_below}
use Rattle.hinges.specs.Hinges.{bend, turn, bends, turns, ats, SizedHinge, HingesOf}
use Rattle.hinges.proofs.Points.{greatest_last}

-- ---- sums of what is above nothing, and of what is below

bends_parts : (hs : List Hinge) (g : ℕ) → bends hs g ≡ pos (sum_by (λ h. up (bend h g)) hs) -ℤ pos (sum_by (λ h. down (bend h g)) hs)
unfolding bends
bends_parts [] g = omega (arith, ints)
bends_parts (h ∷ hs) g = rw (sum_by-cons (λ (k : Hinge). up (bend k g)) h hs, sum_by-cons (λ (k : Hinge). down (bend k g)) h hs) (omega (arith, ints, bends_parts hs g))

turns_parts : (hs : List Hinge) (g : ℕ) → turns hs g ≡ pos (sum_by (λ h. up (turn h g)) hs) -ℤ pos (sum_by (λ h. down (turn h g)) hs)
unfolding turns
turns_parts [] g = omega (arith, ints)
turns_parts (h ∷ hs) g = rw (sum_by-cons (λ (k : Hinge). up (turn k g)) h hs, sum_by-cons (λ (k : Hinge). down (turn k g)) h hs) (omega (arith, ints, turns_parts hs g))

module _ (hs ks : List Hinge) (p : IsPermutation hs ks) (g : ℕ) where
  same_bends : bends ks g ≡ bends hs g
  same_bends =
      bends_parts ks g ∙ rw (sum_by-IsPermutation (λ h. up (bend h g)) hs ks p, sum_by-IsPermutation (λ h. down (bend h g)) hs ks p) (sym (bends_parts hs g))

  same_turns : turns ks g ≡ turns hs g
  same_turns =
      turns_parts ks g ∙ rw (sum_by-IsPermutation (λ h. up (turn h g)) hs ks p, sum_by-IsPermutation (λ h. down (turn h g)) hs ks p) (sym (turns_parts hs g))

-- ---- where they are

in_ats : (hs : List Hinge) (y : ℕ) → among (ats hs) y ≡ true → (h : Hinge) × Contains hs h × (h.at ≡ y)
unfolding among
in_ats [] y a = absurd (let e : ◌≡◌ {A = ℕ} 0 1 = cc in omega arith)
in_ats (h ∷ hs) y a =
    elim (or_cases (eqb h.at y) (among (ats hs) y) a) [
      | inl here ↦ (h, (0, omega arith, refl), eqb-true _ _ here)
      | inr later ↦ let i = in_ats hs y later in (i.0, (suc i.1.0, omega (arith, i.1.1), i.1.2), i.2)
    ]

at_in : (hs : List Hinge) (h : Hinge) (k : ℕ) → k < length hs → get_or hs k h ≡ h → among (ats hs) h.at ≡ true
unfolding among
at_in [] h k l e = absurd (omega arith)
at_in (q ∷ hs) h zero l e = or_left (eqb q.at h.at) _ (eq-eqb _ _ (ap (λ (r : Hinge). r.at) e))
at_in (q ∷ hs) h (suc k) l e = or_right (eqb q.at h.at) _ (at_in hs h k (omega arith) e)

no_lower : (hs ks : List Hinge) (x : ℕ) → 0 < x → ((h : Hinge) → Contains hs h → Contains ks h) → greatest_below (ats hs) x 0 ≤ greatest_below (ats ks) x 0
no_lower hs ks x some into =
    let i = greatest_last (ats hs) x 0 some in
    let j = greatest_last (ats ks) x 0 some in
    elim i.reached [
      | inr none ↦ omega (arith, none)
      | inl point ↦ elim (cases_lt (greatest_below (ats ks) x 0) (greatest_below (ats hs) x 0)) [
        | inr under ↦ under
        | inl less ↦
            let f = in_ats hs (greatest_below (ats hs) x 0) point in
            let c = into f.0 f.1 in
            let m : among (ats ks) (greatest_below (ats hs) x 0) ≡ true = rw f.2 at (at_in ks f.0 c.0 c.1 c.2) in
            absurd (outside (ats ks) (greatest_below (ats ks) x 0) x (greatest_below (ats hs) x 0) j.between m less i.below)
      ]
    ]

none_below_zero : (xs : List ℕ) (m : ℕ) → greatest_below xs 0 m ≡ m
unfolding greatest_below
none_below_zero [] m = refl
none_below_zero (y ∷ xs) m = let e : nearer_below 0 y m ≡ m = grind arith in rw e (none_below_zero xs m)

same_below : (hs ks : List Hinge) → IsPermutation hs ks → (x : ℕ) → greatest_below (ats ks) x 0 ≡ greatest_below (ats hs) x 0
same_below hs ks p zero = none_below_zero (ats ks) 0 ∙ sym (none_below_zero (ats hs) 0)
same_below hs ks p (suc x) =
    let a = no_lower hs ks (suc x) (omega arith) (λ h c. Contains-permutation hs ks h p c) in
    let b = no_lower ks hs (suc x) (omega arith) (λ h c. Contains-permutation ks hs h (IsPermutation-sym hs ks p) c) in
    omega (arith, a, b)

pub same_hinges : (rs : List Rule) (hs ks : List Hinge) → IsPermutation hs ks → HingesOf rs hs → HingesOf rs ks
same_hinges rs hs ks p h =
    record {
      sized = (omega (arith, length_permutation hs ks p, h.sized.0), recursion_from_All SizedHinge ks (All-permutation SizedHinge hs ks p (All-from_recursion SizedHinge hs h.sized.1)));
      net = λ g le. same_bends hs ks p g ∙ h.net g le;
      slope = λ g le. same_turns hs ks p g ∙ h.slope g le;
      below = λ x le. same_below hs ks p x ∙ h.below x le;
    }

-- written back over as many
pub refilled : (xs ys : List Hinge) → IsPermutation xs ys → refill (length xs) xs ys ≡ ys
refilled xs ys p =
    let n : length ys ≡ length xs = length_permutation xs ys p in
    let e : ys ++ drop (length ys) xs ≡ ys = ap (λ (zs : List Hinge). ys ++ zs) (drop_all (length ys) xs (omega (arith, n))) ∙ append-nil ys in
    ap (take (length xs)) e ∙ take_all (length xs) ys (omega (arith, n))
