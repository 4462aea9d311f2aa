-- Kinds that no call uses change no answer.
use Rattle.std.proofs.Common.{◌≡◌, ℕ, zero, suc, Bool, true, false, not, ◌&&◌, ◌||◌, List, [], ◌∷◌, refl}
use Rattle.std.proofs.lemmas.Bool.{and_parts}
use Rattle.raise.specs.Rules.{Rule}
use Rattle.raise.specs.Calls.{Call, Limits, lays, lifts, left_of, next_row, safe, garbled, rule_number, fine, turned, after, row_from, told, answer, answers}
use Rattle.raise.specs.Promise.{whole}
use Rattle.raise.specs.Kinds.{with_kinds, lays_only, all_lay_only}

can_or_not : (can fits : Bool) → (can || not fits) ≡ true → (can && fits) ≡ fits
can_or_not true fits e = refl
can_or_not false true e = e
can_or_not false false e = refl

module _ (can : ℕ → Bool) (l : Limits) where
  turned_alike : (rs : List Rule) (c : Call) → lays_only can c ≡ true → turned (with_kinds can l) rs c ≡ turned (with_kinds whole l) rs c
  unfolding turned
  turned_alike rs (lays r) e = rw (can_or_not (can (rule_number r)) (fine r) e) refl
  turned_alike rs (lifts i) e = refl
  turned_alike rs (left_of g) e = refl
  turned_alike rs (next_row g) e = refl
  turned_alike rs (safe g) e = refl
  turned_alike rs (garbled n) e = refl

  row_alike : (rs : List Rule) (n : ℕ) → row_from (with_kinds can l) rs n ≡ row_from (with_kinds whole l) rs n
  unfolding row_from
  row_alike rs zero = refl
  row_alike rs (suc g) = refl

  told_alike : (rs : List Rule) (c : Call) → told (with_kinds can l) rs c ≡ told (with_kinds whole l) rs c
  unfolding told
  told_alike rs (lays r) = refl
  told_alike rs (lifts i) = refl
  told_alike rs (left_of g) = refl
  told_alike rs (next_row g) = row_alike rs _
  told_alike rs (safe g) = refl
  told_alike rs (garbled n) = refl

  answer_alike : (rs : List Rule) (c : Call) → lays_only can c ≡ true → answer (with_kinds can l) rs c ≡ answer (with_kinds whole l) rs c
  answer_alike rs c e = rw (turned_alike rs c e, told_alike rs c) refl

  after_alike : (rs : List Rule) (c : Call) → lays_only can c ≡ true → after (with_kinds can l) rs c ≡ after (with_kinds whole l) rs c
  after_alike rs c e = rw (turned_alike rs c e) refl

pub others_unused : (can : ℕ → Bool) (l : Limits) (rs : List Rule) (cs : List Call) → all_lay_only can cs ≡ true → answers (with_kinds can l) rs cs ≡ answers (with_kinds whole l) rs cs
unfolding answers all_lay_only
others_unused can l rs [] e = refl
others_unused can l rs (c ∷ cs) e =
    let p = and_parts (lays_only can c) (all_lay_only can cs) e in
    rw (answer_alike can l rs c p.0, after_alike can l rs c p.0, others_unused can l (after (with_kinds whole l) rs c) cs p.1) refl
