-- A book without rules: what is earned is what is left, nobody loses, and the next unit is safe, up to the bound.
use Rattle.std.proofs.Common.{◌≡◌, ℕ, zero, suc, ◌+◌, ◌-◌, ◌*◌, ◌<◌, ◌≤◌, Bool, true, false, eqb, ltb, leb, List, [], ◌∷◌, sym, refl, ap, ◌∙◌, inl, inr, arith}
use Rattle.std.proofs.lemmas.Bool.{le-ltb, or_from, cases_Bool}
use Rattle.std.proofs.lemmas.Bool.Decides.{nat_tests}
use Rattle.raise.specs.Rules.{pick, Rule, all_plus, all_minus, less_left, some_less, loses, first_that, safe_from}
use Rattle.raise.specs.Calls.{Call, Answer, Limits, lays, lifts, left_of, next_row, safe, garbled, turned, place, changed, after, told, row_from, answer, answers}
use Rattle.raise.proofs.Search.{told_is}
use Rattle.session.specs.Nothing.{plain, no_kinds, Plain}

never_less : (g h : ℕ) → g ≤ h → less_left [] g h ≡ false
unfolding all_plus all_minus
never_less g h l = le-ltb (10000 * h + 0) (10000 * g + 0) (omega arith)

none_less : (g n h : ℕ) → g ≤ h → some_less [] g n h ≡ false
unfolding some_less
none_less g zero h l = refl
none_less g (suc n) h l = or_from (less_left [] g h) (some_less [] g n (suc h)) (never_less g h l) (none_less g n (suc h) (omega arith))

none_loses : (b n g : ℕ) → first_that (loses [] b) n g ≡ 0
unfolding first_that
none_loses b zero g = refl
none_loses b (suc n) g = ap (λ (t : Bool). pick t (suc g) (first_that (loses [] b) n (suc g))) (none_less g (b - g) (suc g) (omega arith)) ∙ none_loses b n (suc g)

safe_next : (b g : ℕ) → g < b → safe_from [] b g ≡ g + 2
safe_next b g l =
    sym (told_is [] b g (suc (suc g)) (omega arith, l, λ k lo hi. never_less g k (omega (arith, lo)), λ j lo hi. absurd (omega (arith, lo, hi)))) ∙ omega arith

safe_last : (b g : ℕ) → g ≡ b → safe_from [] b g ≡ 0
safe_last b g e = sym (told_is [] b g 0 (λ j lo hi. absurd (omega (arith, lo, hi, e))))

same : (t : Bool) → pick {A = List Rule} t [] [] ≡ []
same true = refl
same false = refl

-- ---- the answers

module _ (n b : ℕ) where
  nothing : Limits
  nothing = record { rules_can = no_kinds; rules = n; bound = b }

  plain_answer : (c : Call) → answer nothing [] c ≡ plain b c
  unfolding nothing turned place told row_from all_plus all_minus
  plain_answer (lays r) = refl
  plain_answer (lifts i) = rw (le-ltb i 0 (omega arith)) refl
  plain_answer (left_of g) = elim (cases_Bool (leb g b)) [ inl t ↦ rw t refl | inr t ↦ rw t refl ]
  plain_answer (next_row g) = elim (cases_Bool (leb g b)) [ inl t ↦ rw (t, none_loses b (suc b - g) g) refl | inr t ↦ rw t refl ]
  plain_answer (safe g) =
      elim (cases_Bool (leb g b)) [
        | inl t ↦ elim (cases_Bool (ltb g b)) [
          | inl u ↦ let h : g < b = grind (arith, nat_tests) in rw (t, u, safe_next b g h) refl
          | inr u ↦ let h : g ≡ b = grind (arith, nat_tests) in rw (t, u, safe_last b g h) refl
        ]
        | inr t ↦ rw t refl
      ]
  plain_answer (garbled k) = refl

  -- and no call lays a rule
  plain_after : (c : Call) → after nothing [] c ≡ []
  unfolding nothing turned changed
  plain_after (lays r) = refl
  plain_after (lifts i) = rw (le-ltb i 0 (omega arith)) refl
  plain_after (left_of g) = same (eqb (turned nothing [] (left_of g)) 0)
  plain_after (next_row g) = same (eqb (turned nothing [] (next_row g)) 0)
  plain_after (safe g) = same (eqb (turned nothing [] (safe g)) 0)
  plain_after (garbled k) = refl

pub all_plain : Plain
unfolding nothing answers
all_plain n b [] = refl
all_plain n b (c ∷ cs) =
    ap (λ (a : Answer). a ∷ answers (nothing n b) (after (nothing n b) [] c) cs) (plain_answer n b c) ∙
    ap (λ (rs : List Rule). plain b c ∷ answers (nothing n b) rs cs) (plain_after n b c) ∙ ap (λ (xs : List Answer). plain b c ∷ xs) (all_plain n b cs)
