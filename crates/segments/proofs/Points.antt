-- The next breakpoint is the least above, and it is found rule by rule.
use Rattle.std.proofs.Common.{◌≡◌, ℕ, zero, suc, ◌-◌, ◌<◌, ◌≤◌, true, ◌&&◌, ◌||◌, eqb, ltb, leb, List, [], ◌∷◌, length, get_or, take, drop, refl, ap, ◌∙◌, inl, inr, arith}
use Rattle.std.proofs.lemmas.List.{take_rest}
use Rattle.std.proofs.lemmas.Bool.{cases_Bool, and_parts, and_cases, and_from, or_left, or_right, le-leb, eq-eqb, ltb-true, ltb-false}
use Rattle.raise.specs.Rules.{Rule, takes, gives, takes_sum, gives_sum, fades}
use Rattle.raise.specs.Net.{breakpoints, clear, among}
use Rattle.raise.proofs.Look.{narrower}
use Rattle.wire.specs.declared.calls.Rule as declared
use Rattle.wire.specs.Meaning.{meant}
use Rattle.book.specs.Meant.{all_meant}
use Rattle.segments.specs.Points.{nearer, least_above, Next, NextBreakpoints}
use Rattle.segments.specs.Spans.{span, nearest, SpanEnds, SpanHolds}

-- ---- the least above

-- one point more: it is nearer, or it is not between
module _ (y : ℕ) (ys : List ℕ) (x e m : ℕ) (i : Next ys x e m) where
  here : x < y → y < m → Next (y ∷ ys) x e y
  unfolding clear among
  here a b =
      record {
        above = a;
        within = omega (arith, i.within);
        between = and_from _ _ (or_right (leb y x) _ (le-leb y y (omega arith))) (narrower ys x m x y (omega arith) (omega arith) i.between);
        reached = inl (or_left (eqb y y) _ (eq-eqb y y refl));
      }

  beyond : (leb y x || leb m y) ≡ true → Next (y ∷ ys) x e m
  unfolding clear among
  beyond t =
      record {
        above = i.above;
        within = i.within;
        between = and_from _ _ t i.between;
        reached = elim i.reached [ inl in_ys ↦ inl (or_right (eqb y m) _ in_ys) | inr end ↦ inr end ];
      }

  one_more : Next (y ∷ ys) x e (nearer x y m)
  one_more =
      elim (cases_Bool (ltb x y && ltb y m)) [
        | inl t ↦ let p = and_parts (ltb x y) (ltb y m) t in rw t (here (ltb-true _ _ p.0) (ltb-true _ _ p.1))
        | inr u ↦
            rw u
            (beyond
            (elim (and_cases (ltb x y) (ltb y m) u) [
              | inl under ↦ or_left (leb y x) _ (le-leb _ _ (ltb-false x y under))
              | inr past ↦ or_right (leb y x) _ (le-leb _ _ (ltb-false y m past))
            ]))
      ]

least_next : (ys : List ℕ) (x e : ℕ) → x < e → Next ys x e (least_above ys x e)
unfolding least_above clear
least_next [] x e lt = record { above = lt; within = omega arith; between = refl; reached = inr refl }
least_next (y ∷ ys) x e lt = one_more y ys x e _ (least_next ys x e lt)

-- nothing above the end, even where x is not below it
pub least_within : (ys : List ℕ) (x e : ℕ) → least_above ys x e ≤ e
unfolding least_above
least_within [] x e = omega arith
least_within (y ∷ ys) x e = let i = least_within ys x e in grind arith

pub next_breakpoints : NextBreakpoints
next_breakpoints rs b g le = least_next (breakpoints rs) g (suc b) (omega arith)

-- ---- rule by rule

pub span_ends : SpanEnds
unfolding breakpoints
span_ends (takes a b r) rs = refl
span_ends (gives a b r) rs = refl
span_ends (takes_sum a b s) rs = refl
span_ends (gives_sum a b s) rs = refl
span_ends (fades a zero s) rs = refl
span_ends (fades a (suc r) s) rs = refl

pub span_holds : SpanHolds
span_holds (takes a b r) g = refl
span_holds (gives a b r) g = refl
span_holds (takes_sum a b s) g = refl
span_holds (gives_sum a b s) g = refl
span_holds (fades a zero s) g = grind arith
span_holds (fades a (suc r) s) g = grind arith

pub by_no_rule : (rs : List declared.Rule) (x e : ℕ) → length rs < 1 → e ≡ least_above (breakpoints (all_meant rs)) x e
unfolding least_above breakpoints
by_no_rule [] x e h = grind arith
by_no_rule (r ∷ rs) x e h = absurd (omega arith)

by_first : (r : Rule) (rs : List Rule) (x e : ℕ) → nearest (span r) x (least_above (breakpoints rs) x e) ≡ least_above (breakpoints (r ∷ rs)) x e
unfolding least_above breakpoints
by_first (takes a b r) rs x e = refl
by_first (gives a b r) rs x e = refl
by_first (takes_sum a b s) rs x e = refl
by_first (gives_sum a b s) rs x e = refl
by_first (fades a zero s) rs x e = refl
by_first (fades a (suc r) s) rs x e = refl

-- the first rule of a slice, and the others
pub by_rule : (rs : List declared.Rule) (d : declared.Rule) (x e : ℕ) → 1 ≤ length rs →
    nearest (span (meant (get_or rs 0 d))) x (least_above (breakpoints (all_meant (take (length rs - 1) (drop 1 rs)))) x e) ≡ least_above (breakpoints (all_meant rs)) x e
by_rule [] d x e h = absurd (omega arith)
by_rule (r ∷ rs) d x e h =
    ap (λ (qs : List declared.Rule). nearest (span (meant r)) x (least_above (breakpoints (all_meant qs)) x e)) (take_rest (r ∷ rs) 1) ∙ by_first (meant r) (all_meant rs) x e
