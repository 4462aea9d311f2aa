-- How an amount is written, and that two amounts that are shown alike are the same.
use Rattle.std.proofs.Common.{◌≡◌, ℕ, ◌+◌, ◌-◌, ◌/◌, ◌%◌, ◌<◌, ◌≤◌, List, [], ◌∷◌, ◌++◌, length, replicate, get_or, codes, decimal, sym, refl, ◌∙◌, append_assoc, inl, inr, arith}
use Rattle.std.proofs.Padding.{padded_integral_zeros}
use Rattle.std.proofs.lemmas.Fmt.{decimal_digit, decimal_step, decimal_injective, decimal_nonempty, first_decimal}
use Rattle.std.proofs.lemmas.List.{take_at, drop_at, length-append, get_or_append_left, replicate_more}
use Rattle.std.proofs.lemmas.Bool.{cases_lt}
use Rattle.std.specs.Fmt.{styled_decimal, format_spec}
use Rattle.text.specs.Shown.{parted, AmountsDiffer}

-- the point and the four places after it
abbrev places : ℕ → List ℕ
places n = 46 ∷ ((48 + n / 1000 % 10) ∷ ((48 + n / 100 % 10) ∷ ((48 + n / 10 % 10) ∷ ((48 + n % 10) ∷ []))))

parted_is : (n : ℕ) → parted n ≡ decimal (n / 10000) ++ places n
parted_is n = grind (arith, decimal_digit)

-- a number in a width, with zeros in front
abbrev wide : ℕ → ℕ → List ℕ
wide k n = replicate (k - length (decimal n)) 48 ++ decimal n

wide_last : (k n : ℕ) → n < 18446744073709551616 → wide (k + 2) n ≡ wide (k + 1) (n / 10) ++ ((48 + n % 10) ∷ [])
wide_last k n h =
    elim (cases_lt n 10) [
      | inl l ↦ grind (arith, decimal_digit 0 (omega arith), decimal_digit n l, replicate_more {X = ℕ} k 48)
      | inr l ↦ grind (arith, decimal_step n l h, length-append (decimal (n / 10)) ((48 + n % 10) ∷ []), append_assoc)
    ]

wide_four : (n : ℕ) → codes "." ++ wide 4 (n % 10000) ≡ places n
wide_four n = grind (arith, wide_last 2 (n % 10000) (omega arith), wide_last 1 (n % 10000 / 10) (omega arith), wide_last 0 (n % 10000 / 10 / 10) (omega arith), decimal_digit (n / 1000 % 10) (omega arith))

-- as `{}.{:04}` writes it
pub parted_shown : (n : ℕ) → decimal (n / 10000) ++ (codes "." ++ styled_decimal (format_spec 32 0 4 4 18446744073709551615) (n % 10000)) ≡ parted n
parted_shown n = rw (padded_integral_zeros (format_spec 32 0 4 4 18446744073709551615) (decimal (n % 10000)) refl refl, wide_four n) (sym (parted_is n))

-- two lists with ends of one length
same_fronts : (xs ys us vs : List ℕ) → length us ≡ length vs → xs ++ us ≡ ys ++ vs → (xs ≡ ys) × (us ≡ vs)
same_fronts xs ys us vs l e = grind (arith, length-append xs us, length-append ys vs, take_at xs us (length xs) refl, take_at ys vs (length ys) refl, drop_at xs us (length xs) refl, drop_at ys vs (length ys) refl)

same_parted : (m n : ℕ) → m < 18446744073709551616 → n < 18446744073709551616 → parted m ≡ parted n → m ≡ n
same_parted m n p q e =
    let s = same_fronts (decimal (m / 10000)) (decimal (n / 10000)) (places m) (places n) refl (sym (parted_is m) ∙ e ∙ parted_is n) in
    grind (arith, decimal_injective (m / 10000) (n / 10000) (omega arith) (omega arith) s.0, s.1)

-- a number begins with a digit, never with a sign
first_digit : (n : ℕ) → n < 18446744073709551616 → 48 ≤ get_or (decimal n) 0 0
first_digit n h = grind (arith, decimal_digit 0 (omega arith), first_decimal n)

no_sign : (m n : ℕ) → n < 18446744073709551616 → codes "-" ++ parted m ≡ parted n → ⊥
no_sign m n h e = grind (arith, e, parted_is n, get_or_append_left (decimal (n / 10000)) (places n) 0 0 (decimal_nonempty (n / 10000) (omega arith)), first_digit (n / 10000) (omega arith))

pub amounts_differ : AmountsDiffer
amounts_differ i o j p a b c d e =
    elim (cases_lt i o) [
      | inl s ↦ elim (cases_lt j p) [
        | inl t ↦ grind (arith, same_parted (o - i) (p - j) (omega arith) (omega arith))
        | inr t ↦ grind (arith, no_sign (o - i) (j - p) (omega arith))
      ]
      | inr s ↦ elim (cases_lt j p) [
        | inl t ↦ grind (arith, no_sign (p - j) (i - o) (omega arith))
        | inr t ↦ grind (arith, same_parted (i - o) (j - p) (omega arith) (omega arith))
      ]
    ]
