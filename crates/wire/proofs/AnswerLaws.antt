-- Answers are read back from their bytes.
use Rattle.std.proofs.Common.{◌≡◌, ℕ, ◌<◌, true, eqb, ltb, List, [], ◌∷◌, ◌++◌, length, Some, None, refl, ap, ◌∙◌, inl, inr, arith}
use Rattle.std.specs.List.{flat_map}
use Rattle.std.proofs.lemmas.List.{append-nil}
use Rattle.std.proofs.lemmas.Bool.{and_parts, ltb-true, eqb-true, cases_Bool}
use Rattle.std.proofs.lemmas.Bool.Decides.{nat_tests}
use Rattle.raise.specs.Calls.{Answer, refused, number, two}
use Rattle.wire.specs.declared.answers.Refusal.TheVariants.{Unreadable, OutOfRange, TooManyRules, BoundTooHigh, MemoryTooSmall, NoSuchRule, BookFull}
use Rattle.wire.specs.Fields.{bytes_of, number_at}
use Rattle.wire.specs.AnswerBytes.{answer_numbers, is_refusal, answer_from, answer_of, sayable, AnswersReadBack, OnlyAnswersRead, RefusalsRead}
use Rattle.wire.proofs.Numbers.{row_long, row_first, row_second, row_third, row_back, number_fits}

-- three numbers of eight bytes
words_back : (a b c : ℕ) → a < 3 → b < 18446744073709551616 → c < 18446744073709551616 → answer_of (bytes_of 8 a ++ (bytes_of 8 b ++ (bytes_of 8 c ++ []))) ≡ answer_from a b c
words_back a b c p q r =
    let f : a < 18446744073709551616 = omega arith in
    let n = append-nil (bytes_of 8 c) in
    let l = row_long 8 a b c in
    let x = row_first 8 a b c f in
    let y = row_second 8 a b c q in
    let z = row_third 8 a b c r in
    rw (n, l, x, y, z)

refusal_low : (k n : ℕ) → is_refusal k n ≡ true → k < 18446744073709551616
refusal_low k n h = grind (arith, nat_tests)

pub answers_read_back : AnswersReadBack
answers_read_back (refused k n) h =
    let p = and_parts (is_refusal k n) (ltb n 18446744073709551616) h in
    let i = p.0 in
    words_back 0 k n (omega arith) (refusal_low k n i) (ltb-true n 18446744073709551616 p.1) ∙ rw i
answers_read_back (number n) h = grind (arith, nat_tests, words_back)
answers_read_back (two m n) h = grind (arith, nat_tests, words_back)

-- ---- and nothing else is read

-- what three numbers are as an answer has just these numbers
abbrev SaysJust : ℕ → ℕ → ℕ → Answer → Type 0
SaysJust a b c x = (sayable x ≡ true) × (answer_numbers x ≡ a ∷ (b ∷ (c ∷ [])))

from_numbers : (a b c : ℕ) (x : Answer) → b < 18446744073709551616 → c < 18446744073709551616 → answer_from a b c ≡ Some x → SaysJust a b c x
from_numbers a b c x p q e = grind (arith, nat_tests)

pub only_answers_read : OnlyAnswersRead
only_answers_read bs x h e =
    elim (cases_Bool (eqb (length bs) 24)) [
      | inl t ↦
          let l : length bs ≡ 24 = eqb-true (length bs) 24 t in
          let b = number_fits 8 8 bs (omega arith) h in
          let c = number_fits 8 16 bs (omega arith) h in
          let s = from_numbers (number_at 8 bs 0) (number_at 8 bs 8) (number_at 8 bs 16) x b c (rw t at e) in
          (s.0, ap (flat_map (bytes_of 8)) s.1 ∙ ap (λ (t : List ℕ). bytes_of 8 (number_at 8 bs 0) ++ (bytes_of 8 (number_at 8 bs 8) ++ t)) (append-nil (bytes_of 8 (number_at 8 bs 16))) ∙ row_back 8 bs l h)
      | inr t ↦ let n : None ≡ Some x = rw t at e in (cc)
    ]

pub refusals_read : RefusalsRead
refusals_read (Unreadable n) = refl
refusals_read OutOfRange = refl
refusals_read TooManyRules = refl
refusals_read BoundTooHigh = refl
refusals_read MemoryTooSmall = refl
refusals_read NoSuchRule = refl
refusals_read BookFull = refl
