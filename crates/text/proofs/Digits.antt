-- How a number is read, digit by digit.
use Rattle.std.proofs.Common.{◌≡◌, ℕ, ◌+◌, ◌-◌, ◌*◌, ◌<◌, ◌≤◌, true, false, ◌&&◌, List, [], ◌∷◌, length, drop, get_or, Some, None, nat_lt, refl, arith, inl, inr}
use Rattle.std.specs.Char.{is_ascii_digit, digit_value}
use Rattle.std.specs.Str.{all_ascii_digits}
use Rattle.std.specs.Str.Parse.{digits_value, digits_value_after}
use Rattle.std.proofs.lemmas.Bool.{cases_Bool, and_parts, ltb-true, ltb-false, lt-ltb, le-ltb}
use Rattle.std.proofs.lemmas.List.{drop_more, drop_all}
use Rattle.raise.specs.Rules.{pick}
use Rattle.text.specs.Words.{is_empty, number_of}

-- the bytes of a word before the i-th are digits, and write v: what the word writes is v and the others
pub record Read (w : List ℕ) (v i : ℕ) : Type 0 where
  pub digits : all_ascii_digits w ≡ all_ascii_digits (drop i w)
  pub value : digits_value 10 w ≡ digits_value_after 10 v (drop i w)
  pub small : v < 4294967296

pub begins : (w : List ℕ) → Read w 0 0
begins w = record { digits = refl; value = refl; small = omega arith }

grows : (n : ℕ) (cs : List ℕ) → n ≤ digits_value_after 10 n cs
grows n [] = omega arith
grows n (c ∷ cs) = omega (arith, grows (n * 10 + digit_value c) cs)

worth : (c : ℕ) → is_ascii_digit c ≡ true → digit_value c ≡ c - 48
worth c d = grind (arith, d)

module _ (w : List ℕ) (v i : ℕ) (r : Read w v i) (l : i < length w) where
  abbrev c : ℕ
  c = get_or w i 0

  behind : drop i w ≡ c ∷ drop (i + 1) w
  behind = drop_more w i 0 l

  digits : all_ascii_digits w ≡ (is_ascii_digit c && all_ascii_digits (drop (i + 1) w))
  digits = rw behind at r.digits

  value : digits_value 10 w ≡ digits_value_after 10 (v * 10 + digit_value c) (drop (i + 1) w)
  value = rw behind at r.value

  more : is_ascii_digit c ≡ true → digits_value 10 w ≡ digits_value_after 10 (10 * v + (c - 48)) (drop (i + 1) w)
  more d = let e : v * 10 + digit_value c ≡ 10 * v + (c - 48) = omega (arith, worth c d) in rw e at value

  pub goes_on : (n : ℕ) → Some n ≡ pick (is_ascii_digit c && nat_lt (10 * v + (c - 48)) 4294967296) (Some (10 * v + (c - 48))) None → Read w n (i + 1)
  goes_on n e =
      elim (cases_Bool (is_ascii_digit c && nat_lt (10 * v + (c - 48)) 4294967296)) [
        | inr none ↦ let f : Some n ≡ None = rw none at e in cc
        | inl one ↦
            let f : Some n ≡ Some (10 * v + (c - 48)) = rw one at e in
            let g : n ≡ 10 * v + (c - 48) = cc in
            let d = and_parts (is_ascii_digit c) (nat_lt (10 * v + (c - 48)) 4294967296) one in
            rw g (record { digits = rw d.0 at digits; value = more d.0; small = ltb-true _ _ d.1 })
      ]

  pub stops : (is_ascii_digit c && nat_lt (10 * v + (c - 48)) 4294967296) ≡ false → number_of w ≡ None
  stops d =
      elim (cases_Bool (is_ascii_digit c)) [
        | inr none ↦ let f : all_ascii_digits w ≡ false = rw none at digits in grind (arith, f)
        | inl one ↦
            let large : nat_lt (10 * v + (c - 48)) 4294967296 ≡ false = rw one at d in
            let f : nat_lt (digits_value 10 w) 4294967296 ≡ false = le-ltb _ _ (omega (arith, ltb-false _ _ large, grows (10 * v + (c - 48)) (drop (i + 1) w), more one)) in
            grind (arith, f)
      ]

pub ends : (w : List ℕ) (v i : ℕ) → Read w v i → length w ≤ i → is_empty w ≡ false → number_of w ≡ Some v
ends w v i r l e =
    let none : drop i w ≡ [] = drop_all i w l in
    let d : all_ascii_digits w ≡ true = rw none at r.digits in
    let n : digits_value 10 w ≡ v = rw none at r.value in
    rw (e, d, n, lt-ltb v 4294967296 r.small) refl
