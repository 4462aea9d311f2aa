-- Small books: a trial of all earnings up to the bound, computed, is the statement for every earning.
use Rattle.std.proofs.Common.{◌≡◌, ℕ, zero, suc, ◌<◌, ◌≤◌, Bool, true, false, ◌&&◌, List, Option, refl, inl, inr, arith}
use mathlib.Core.Bool.{beq}
use Rattle.std.proofs.lemmas.Bool.{and_parts, cases_eq, both_ways}
use Rattle.raise.specs.Rules.{Rule, plus, minus, all_plus, all_minus, some_less, loses}
use Rattle.raise.specs.Rows.{lies_if}
use Rattle.raise.specs.Worked.{OnlyRow}
use Rattle.raise.specs.declared.LosingRow.{LosingRow}

equal : (x y : Bool) → beq x y ≡ true → x ≡ y
equal true true e = refl
equal true false e = absurd (both_ways false refl e)
equal false true e = absurd (both_ways false refl e)
equal false false e = refl

-- do two tests agree below n
unfoldable pub agree : (ℕ → Bool) → (ℕ → Bool) → ℕ → Bool
agree f t zero = true
agree f t (suc n) = beq (f n) (t n) && agree f t n

pub tried : (f t : ℕ → Bool) (b : ℕ) → agree f t (suc b) ≡ true → (g : ℕ) → g ≤ b → f g ≡ t g
unfolding agree
tried f t b e g le = below (suc b) e (omega arith)
  where
    below : (n : ℕ) → agree f t n ≡ true → g < n → f g ≡ t g
    below zero e lt = absurd (omega arith)
    below (suc n) e lt =
        let p = and_parts (beq (f n) (t n)) (agree f t n) e in
        elim (cases_eq g n) [ inl here ↦ rw here (equal (f n) (t n) p.0) | inr other ↦ below n p.1 (omega arith) ]

-- names what a computed trial opens, once
unfoldable pub computed : Bool
unfolding agree some_less all_plus all_minus plus minus
computed = true

pub only_row : (rs : List Rule) (b : ℕ) (row : Option LosingRow) → agree (loses rs b) (lies_if row) (suc b) ≡ true → OnlyRow rs b row
only_row rs b row e = record { just_these = tried (loses rs b) (lies_if row) b e }
