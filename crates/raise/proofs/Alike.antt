-- Books that answer alike: only what comes in and what goes out matters, up to the bound.
use Rattle.std.proofs.Common.{◌≡◌, ℕ, zero, suc, ◌+◌, ◌-◌, ◌<◌, ◌≤◌, Bool, not, ◌&&◌, ltb, leb, List, [], ◌∷◌, ◌++◌, sym, refl, ap, ◌∙◌, inl, inr, arith}
use Rattle.std.proofs.lemmas.List.{append-nil}
use Rattle.std.proofs.lemmas.Bool.{cases_Bool, leb-true}
use Rattle.raise.specs.Rules.{Rule, all_plus, all_minus, less_left, some_less, loses, first_that, first_losing, first_not, all_as_much, safe_from}
use Rattle.raise.specs.Calls.{Limits, lays, turned, place, changed, row_from, told}
use Rattle.raise.specs.Laws.{AskedAlike, SameUpTo, Idle}
use Rattle.raise.proofs.Search.{not_less}
use Rattle.raise.proofs.Order.{any_order}

first_alike : (f t : ℕ → Bool) (n g : ℕ) → ((j : ℕ) → g ≤ j → j < g + n → f j ≡ t j) → first_that f n g ≡ first_that t n g
unfolding first_that
first_alike f t zero g e = refl
first_alike f t (suc n) g e = let s = first_alike f t n (suc g) (λ j lo hi. e j (omega arith) (omega arith)) in rw (e g (omega arith) (omega arith), s) refl

module _ (l : Limits) (rs qs : List Rule) (same : SameUpTo l.bound rs qs) where
  less_alike : (g h : ℕ) → g ≤ l.bound → h ≤ l.bound → less_left rs g h ≡ less_left qs g h
  less_alike g h lg lh = rw ((same g lg).0, (same g lg).1, (same h lh).0, (same h lh).1) refl

  some_alike : (g n h : ℕ) → g ≤ l.bound → h + n ≤ suc l.bound → some_less rs g n h ≡ some_less qs g n h
  unfolding some_less
  some_alike g zero h lg e = refl
  some_alike g (suc n) h lg e = rw (less_alike g h lg (omega arith), some_alike g n (suc h) lg (omega arith)) refl

  all_alike : (g n h : ℕ) → g ≤ l.bound → h + n ≤ suc l.bound → all_as_much rs g n h ≡ all_as_much qs g n h
  all_alike g n h lg e = not_less rs g n h ∙ ap not (some_alike g n h lg e) ∙ sym (not_less qs g n h)

  loses_alike : (g : ℕ) → g ≤ l.bound → loses rs l.bound g ≡ loses qs l.bound g
  loses_alike g lg = some_alike g (l.bound - g) (suc g) lg (omega arith)

  losing_alike : (g : ℕ) → first_losing rs l.bound g ≡ first_losing qs l.bound g
  losing_alike g = first_alike _ _ (suc l.bound - g) g (λ j lo hi. loses_alike j (omega arith))

  not_alike : (g : ℕ) → first_not rs l.bound g ≡ first_not qs l.bound g
  not_alike g = first_alike _ _ (suc l.bound - g) g (λ j lo hi. ap not (loses_alike j (omega arith)))

  safe_alike : (g : ℕ) → g ≤ l.bound → safe_from rs l.bound g ≡ safe_from qs l.bound g
  safe_alike g lg = first_alike _ _ (suc l.bound - g) g (λ j lo hi. ap (λ t. ltb g j && t) (all_alike g (suc l.bound - j) j lg (omega arith)))

  row_alike : (n : ℕ) → row_from l rs n ≡ row_from l qs n
  unfolding row_from
  row_alike zero = refl
  row_alike (suc g) = rw (not_alike g) refl

  pub alike : AskedAlike l rs qs
  unfolding turned told place
  alike g =
      elim (cases_Bool (leb g l.bound)) [
        | inl t ↦
            let lg : g ≤ l.bound = leb-true _ _ t in
            (rw (t, (same g lg).0, (same g lg).1) refl, rw t (ap (row_from l rs) (losing_alike g) ∙ row_alike _), rw (t, safe_alike g lg) refl)
        | inr u ↦ (rw u refl, rw u refl, rw u refl)
      ]

pub any_order_asked : (l : Limits) (rs ss : List Rule) (r q : Rule) → AskedAlike l (rs ++ (r ∷ (q ∷ ss))) (rs ++ (q ∷ (r ∷ ss)))
any_order_asked l rs ss r q = alike l _ _ (λ g _. any_order rs ss r q g)

-- a rule that neither gives nor takes, among others
idle_adds : (rs ss : List Rule) (r : Rule) (b : ℕ) → Idle r b → SameUpTo b (rs ++ (r ∷ ss)) (rs ++ ss)
unfolding all_plus all_minus
idle_adds [] ss r b z g le = (omega (arith, (z g le).0), omega (arith, (z g le).1))
idle_adds (x ∷ rs) ss r b z g le = let i = idle_adds rs ss r b z g le in (omega (arith, i.0), omega (arith, i.1))

pub idle_anywhere : (l : Limits) (rs ss : List Rule) (r : Rule) → Idle r l.bound → AskedAlike l (rs ++ (r ∷ ss)) (rs ++ ss)
idle_anywhere l rs ss r z = alike l _ _ (idle_adds rs ss r l.bound z)

pub idle_laid : (l : Limits) (rs : List Rule) (r : Rule) → Idle r l.bound → AskedAlike l (changed rs (lays r)) rs
unfolding changed
idle_laid l rs r z = let e = append-nil rs in rw e at (idle_anywhere l rs [] r z)
