-- The row from the first that loses: up to before the first after it that doesn't, or up to the bound.
use Rattle.std.proofs.Common.{◌≡◌, ℕ, suc, ◌-◌, ◌<◌, false, not, eqb, List, Some, None, Option, MatchOption, sym, refl, ap, inl, inr, arith}
use Rattle.std.proofs.lemmas.Bool.{both_ways, not-true, cases_eq, ne_eqb}
use Rattle.raise.specs.Rules.{Rule, loses, first_losing, first_not}
use Rattle.raise.specs.Calls.{Limits, two, row_from}
use Rattle.raise.specs.Told.{gross_told}
use Rattle.raise.proofs.Search.{first_found}

module _ (rs : List Rule) (b g first : ℕ) (e : suc first ≡ first_losing rs b g) where
  pub next_above : (next : ℕ) → suc next ≡ first_not rs b first → first < next
  next_above next f =
      let i = first_found (loses rs b) (suc b - g) g first (sym e) in
      let j = first_found (λ h. not (loses rs b h)) (suc b - first) first next (sym f) in
      elim (cases_eq first next) [
        | inl same ↦ absurd (both_ways (loses rs b first) (rw same (not-true _ j.2)) i.2)
        | inr other ↦ omega (arith, j.0)
      ]

  pub row_is : (o : Option ℕ) (last : ℕ) → gross_told o ≡ first_not rs b first → MatchOption o (last ≡ b) (λ next. last ≡ next - 1) →
      (l : Limits) → l.bound ≡ b → two (suc first) (suc last) ≡ row_from l rs (first_losing rs b g)
  unfolding row_from
  row_is None last f at l d = rw (at, ← e, d, ← f) refl
  row_is (Some next) last f at l d =
      let lt = next_above next f in
      let s : suc last ≡ suc next - 1 = omega arith in
      let n : eqb (suc next) 0 ≡ false = ne_eqb _ _ (λ z. omega arith) in
      rw (← e, d, ← f, n) (ap (two (suc first)) s)
