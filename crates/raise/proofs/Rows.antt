-- The answered row: its first, its last, and what lies around it.
use Rattle.std.proofs.Common.{◌≡◌, ℕ, zero, suc, ◌-◌, ◌<◌, Bool, false, not, eqb, List, refl, inl, inr, arith}
use Rattle.std.proofs.lemmas.Bool.{both_ways, not-true, not-false, cases_eq, ne_eqb}
use Rattle.raise.specs.Rules.{Rule, some_less, loses, first_losing, first_not}
use Rattle.raise.specs.Calls.{Limits, next_row, row_from, told}
use Rattle.raise.specs.Laws.{RowTold}
use Rattle.raise.proofs.Search.{first_found, none_that}

-- whoever earns the bound can't earn more
pub at_bound : (rs : List Rule) (b : ℕ) → loses rs b b ≡ false
unfolding some_less
at_bound rs b = let z : b - b ≡ 0 = omega arith in rw z

module _ (l : Limits) (rs : List Rule) (g : ℕ) where
  abbrev lose : ℕ → Bool
  lose = loses rs l.bound

  abbrev fuel : ℕ → ℕ
  fuel h = suc l.bound - h

  -- a row from `first` to before `after`
  row : (first after : ℕ) → first_losing rs l.bound g ≡ suc first → first_not rs l.bound first ≡ suc after → first < after → RowTold rs l.bound g (told l rs (next_row g))
  unfolding told row_from
  row first zero e f lt = absurd (omega arith)
  row first (suc last) e f lt =
      let i = first_found lose (fuel g) g first e in
      let j = first_found (λ h. not (lose h)) (fuel first) first (suc last) f in
      let n : eqb (suc (suc last)) 0 ≡ false = ne_eqb _ _ (λ z. omega arith) in
      let s : suc (suc last) - 1 ≡ suc last = omega arith in
      inr (
        first,
        last,
        rw (e, f, n, s) refl,
        record {
          from_asked = i.0;
          in_order = omega arith;
          below_bound = omega (arith, j.0, j.1, i.0, i.1);
          all_lose = λ k lo hi. not-false _ (j.3 k lo (omega arith));
          none_before = i.3;
          not_after = not-true _ j.2;
        },
      )

  -- there is one after it that doesn't lose, since whoever earns the bound doesn't
  ends : (first n : ℕ) → first_losing rs l.bound g ≡ suc first → first_not rs l.bound first ≡ n → RowTold rs l.bound g (told l rs (next_row g))
  ends first zero e f =
      let i = first_found lose (fuel g) g first e in
      let t = none_that (λ h. not (lose h)) (fuel first) first f l.bound (omega (arith, i.0, i.1)) (omega (arith, i.0, i.1)) in
      absurd (both_ways (lose l.bound) (at_bound rs l.bound) (not-false _ t))
  ends first (suc after) e f =
      let i = first_found lose (fuel g) g first e in
      let j = first_found (λ h. not (lose h)) (fuel first) first after f in
      elim (cases_eq first after) [
        | inl same ↦ absurd (both_ways (lose first) (rw same (not-true _ j.2)) i.2)
        | inr other ↦ row first after e f (omega (arith, j.0))
      ]

  begins : (n : ℕ) → first_losing rs l.bound g ≡ n → RowTold rs l.bound g (told l rs (next_row g))
  unfolding told row_from
  begins zero e = inl (rw e refl, λ k lo hi. none_that lose (fuel g) g e k lo (omega arith))
  begins (suc first) e = ends first _ e refl

pub row_stands : (l : Limits) (rs : List Rule) (g : ℕ) → RowTold rs l.bound g (told l rs (next_row g))
row_stands l rs g = begins l rs g _ refl
