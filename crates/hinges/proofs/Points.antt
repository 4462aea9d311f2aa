-- The next breakpoint below: what it is.
use Rattle.std.proofs.Common.{◌≡◌, ℕ, zero, suc, ◌<◌, ◌≤◌, true, ◌&&◌, eqb, ltb, leb, ◌⊎◌, List, [], ◌∷◌, sym, refl, inl, inr, arith}
use Rattle.std.proofs.lemmas.Bool.{cases_Bool, and_parts, and_cases, and_from, or_left, or_right, le-leb, eq-eqb, ltb-true, ltb-false}
use Rattle.raise.specs.Rules.{Rule, takes, gives, takes_sum, gives_sum, fades}
use Rattle.raise.specs.Net.{breaks, breakpoints, clear, among}
use Rattle.hinges.specs.Below.{greatest_below, BreakpointsBelow}

-- y is the last point below x that is not below m: none of the points is between, and it is a point or m
pub record Last (points : List ℕ) (m x y : ℕ) : Type 0 where
  pub low : m ≤ y
  pub below : y < x
  pub between : clear points y x ≡ true
  pub reached : (among points y ≡ true) ⊎ (y ≡ m)

-- one point more: it is nearer, or it is not between
module _ (y : ℕ) (ys : List ℕ) (m x r : ℕ) where
  here : m < y → Last ys y x r → Last (y ∷ ys) m x r
  unfolding clear among
  here lt i =
      record {
        low = omega (arith, i.low);
        below = i.below;
        between = and_from _ _ (or_left (leb y r) _ (le-leb y r i.low)) i.between;
        reached = inl (elim i.reached [ inl in_ys ↦ or_right (eqb y r) _ in_ys | inr same ↦ or_left (eqb y r) _ (eq-eqb y r (sym same)) ]);
      }

  beyond : (y ≤ m) ⊎ (x ≤ y) → Last ys m x r → Last (y ∷ ys) m x r
  unfolding clear among
  beyond off i =
      record {
        low = i.low;
        below = i.below;
        between = and_from _ _ (elim off [ inl under ↦ or_left (leb y r) _ (le-leb y r (omega (arith, i.low))) | inr past ↦ or_right (leb y r) _ (le-leb x y past) ]) i.between;
        reached = elim i.reached [ inl in_ys ↦ inl (or_right (eqb y r) _ in_ys) | inr same ↦ inr same ];
      }

pub greatest_last : (ys : List ℕ) (x m : ℕ) → m < x → Last ys m x (greatest_below ys x m)
unfolding greatest_below clear
greatest_last [] x m lt = record { low = omega arith; below = lt; between = refl; reached = inr refl }
greatest_last (y ∷ ys) x m lt =
    elim (cases_Bool (ltb m y && ltb y x)) [
      | inl t ↦
          let p = and_parts (ltb m y) (ltb y x) t in
          rw t (here y ys m x (greatest_below ys x y) (ltb-true m y p.0) (greatest_last ys x y (ltb-true y x p.1)))
      | inr u ↦
          rw u
          (beyond y ys m x (greatest_below ys x m)
          (elim (and_cases (ltb m y) (ltb y x) u) [ inl under ↦ inl (ltb-false m y under) | inr past ↦ inr (ltb-false y x past) ])
          (greatest_last ys x m lt))
    ]

-- 0 is a breakpoint
zero_more : (r : Rule) (xs : List ℕ) → among xs 0 ≡ true → among (breaks r xs) 0 ≡ true
unfolding among
zero_more (takes a b r) xs h = or_right (eqb a 0) _ (or_right (eqb b 0) _ h)
zero_more (gives a b r) xs h = or_right (eqb a 0) _ (or_right (eqb b 0) _ h)
zero_more (takes_sum a b s) xs h = or_right (eqb a 0) _ (or_right (eqb b 0) _ h)
zero_more (gives_sum a b s) xs h = or_right (eqb a 0) _ (or_right (eqb b 0) _ h)
zero_more (fades a zero s) xs h = or_right (eqb a 0) _ h
zero_more (fades a (suc r) s) xs h = or_right (eqb a 0) _ (or_right (eqb _ 0) _ h)

zero_is : (rs : List Rule) → among (breakpoints rs) 0 ≡ true
unfolding among breakpoints
zero_is [] = refl
zero_is (r ∷ rs) = zero_more r (breakpoints rs) (zero_is rs)

pub breakpoints_below : BreakpointsBelow
breakpoints_below rs x some =
    let i = greatest_last (breakpoints rs) x 0 some in
    record {
      below = i.below;
      between = i.between;
      reached = elim i.reached [ inl in_ys ↦ in_ys | inr none ↦ rw none (zero_is rs) ];
    }
