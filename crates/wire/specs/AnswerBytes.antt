-- Answers as bytes: three numbers of eight bytes each, low byte first. Nothing is assumed.
--
-- 0, why and the place; or 1, a number and 0; or 2 and two numbers.
use Rattle.std.specs.Prelude.{◌≡◌, ℕ, Bool, true, false, ◌&&◌, ◌||◌, List, [], ◌∷◌, length, Some, None, Option, Result, MatchResult, ◌==◌, nat_le, nat_lt}
use Rattle.std.specs.List.{flat_map}
use Rattle.raise.specs.Rules.{pick}
use Rattle.raise.specs.Calls.{Answer, refused, number, two}
use Rattle.raise.specs.Promise.{all_below}
use Rattle.wire.specs.declared.answers.Refusal.{Refusal}
use Rattle.wire.specs.declared.answers.UnknownRefusal.{UnknownRefusal}
use Rattle.wire.specs.Fields.{bytes_of, number_at}
use Rattle.wire.specs.Meaning.{refusal_number, refusal_place}

abbrev pub answer_numbers : Answer → List ℕ
answer_numbers (refused k n) = 0 ∷ (k ∷ (n ∷ []))
answer_numbers (number n) = 1 ∷ (n ∷ (0 ∷ []))
answer_numbers (two m n) = 2 ∷ (m ∷ (n ∷ []))

abbrev pub answer_bytes : Answer → List ℕ
answer_bytes a = flat_map (bytes_of 8) (answer_numbers a)

-- the refusals that there are, by number and place: 1 at any place; 2, 4 and 5 at 0; 3 at 0, 1 and 2
abbrev pub is_refusal : ℕ → ℕ → Bool
is_refusal k n = k == 1 || ((k == 3 && nat_le n 2) || ((k == 2 || (k == 4 || k == 5)) && n == 0))

abbrev pub refusal_from : ℕ → ℕ → Option Answer
refusal_from k n = pick (is_refusal k n) (Some (refused k n)) None

-- the refusal of a number and a place, or an error with both where there is none
abbrev pub ReadsRefusal : ℕ × ℕ → Result Refusal UnknownRefusal → Type 0
ReadsRefusal p r =
    MatchResult r (λ e. (is_refusal p.0 p.1 ≡ true) × (refusal_number e ≡ p.0) × (refusal_place e ≡ p.1)) (λ e. (is_refusal p.0 p.1 ≡ false) × (e.number ≡ p.0) × (e.place ≡ p.1))

abbrev pub answer_from : ℕ → ℕ → ℕ → Option Answer
answer_from a b c =
    pick (a == 0) (refusal_from b c)
    (pick (a == 1) (pick (c == 0) (Some (number b)) None)
    (pick (a == 2) (Some (two b c)) None))

-- the answer that bytes are, if they are one
abbrev pub answer_of : List ℕ → Option Answer
answer_of bs = pick (length bs == 24) (answer_from (number_at 8 bs 0) (number_at 8 bs 8) (number_at 8 bs 16)) None

-- an answer that bytes can say: numbers below 2^64, and a refusal that there is
abbrev pub sayable : Answer → Bool
sayable (refused k n) = is_refusal k n && nat_lt n 18446744073709551616
sayable (number n) = nat_lt n 18446744073709551616
sayable (two m n) = nat_lt m 18446744073709551616 && nat_lt n 18446744073709551616

-- reading what was written gives it back
abbrev pub AnswersReadBack : Type 0
AnswersReadBack = (a : Answer) → sayable a ≡ true → answer_of (answer_bytes a) ≡ Some a

-- what is read as an answer is that answer's bytes, and nothing else; its numbers fit
abbrev pub OnlyAnswersRead : Type 0
OnlyAnswersRead = (bs : List ℕ) (a : Answer) → all_below 256 bs ≡ true → answer_of bs ≡ Some a → (sayable a ≡ true) × (answer_bytes a ≡ bs)

-- every refusal that the code has is one that is read
abbrev pub RefusalsRead : Type 0
RefusalsRead = (e : Refusal) → is_refusal (refusal_number e) (refusal_place e) ≡ true
