-- Which rules neither give nor take up to the bound.
use Rattle.std.proofs.Common.{◌≡◌, ℕ, suc, ◌-◌, ◌*◌, ◌<◌, ◌≤◌, Bool, true, ◌&&◌, ◌||◌, eqb, ltb, leb, refl, ap, inl, inr, arith}
use Rattle.std.proofs.lemmas.Bool.{cases_lt, or_left, or_right, or_cases, and_parts, and_from, eqb-true, leb-true, ltb-true, le-leb, lt-ltb, eq-eqb}
use Rattle.raise.specs.Rules.{pick, lesser, Rule, takes, gives, takes_sum, gives_sum, fades, plus, minus}
use Rattle.raise.specs.Calls.{fine}
use Rattle.raise.specs.Laws.{Idle, idle}

-- a rate
rate_none : (a b r e g : ℕ) → (eqb r 0 || leb e a) ≡ true → g ≤ e → r * (lesser g b - a) ≡ 0
rate_none a b r e g t le =
    elim (or_cases (eqb r 0) (leb e a) t) [
      | inl z ↦ let z' : r ≡ 0 = eqb-true r 0 z in rw z' (omega arith)
      | inr late ↦ let l : e ≤ a = leb-true e a late in let d : lesser g b - a ≡ 0 = grind arith in rw d (omega arith)
    ]

rate_some : (a b r e : ℕ) → a < b → ((g : ℕ) → g ≤ e → r * (lesser g b - a) ≡ 0) → (eqb r 0 || leb e a) ≡ true
rate_some a b r e lt z =
    elim (cases_lt a e) [
      | inr late ↦ or_right (eqb r 0) _ (le-leb e a late)
      | inl early ↦
          let one : lesser (suc a) b - a ≡ 1 = grind arith in
          let y = z (suc a) early in
          or_left (eqb r 0) _ (eq-eqb r 0 (omega (arith, ap (λ n. r * n) one)))
    ]

-- a sum
sum_none : (a b s e g : ℕ) → (eqb s 0 || ltb e a) ≡ true → g ≤ e → pick (leb a g && ltb g b) (10000 * s) 0 ≡ 0
sum_none a b s e g t le =
    elim (or_cases (eqb s 0) (ltb e a) t) [
      | inl z ↦ let z' : s ≡ 0 = eqb-true s 0 z in grind arith
      | inr late ↦ let l : e < a = ltb-true e a late in grind arith
    ]

sum_some : (a b s e : ℕ) → a < b → ((g : ℕ) → g ≤ e → pick (leb a g && ltb g b) (10000 * s) 0 ≡ 0) → (eqb s 0 || ltb e a) ≡ true
sum_some a b s e lt z =
    elim (cases_lt e a) [
      | inl late ↦ or_right (eqb s 0) _ (lt-ltb e a late)
      | inr early ↦
          let on : (leb a a && ltb a b) ≡ true = and_from _ _ (le-leb a a (omega arith)) (lt-ltb a b lt) in
          let y : 10000 * s ≡ 0 = rw on at (z a early) in
          or_left (eqb s 0) _ (eq-eqb s 0 (omega arith))
    ]

ordered : (a b : ℕ) (t : Bool) → (ltb a b && t) ≡ true → a < b
ordered a b t f = ltb-true a b (and_parts (ltb a b) t f).0

pub these : (r : Rule) (b : ℕ) → idle r b ≡ true → Idle r b
unfolding idle plus minus
these (takes a b r) e t g le = (refl, rate_none a b r e g t le)
these (gives a b r) e t g le = (rate_none a b r e g t le, refl)
these (takes_sum a b s) e t g le = (refl, sum_none a b s e g t le)
these (gives_sum a b s) e t g le = (sum_none a b s e g t le, refl)
these (fades a r s) e t g le = let z : s ≡ 0 = eqb-true s 0 t in (rw z (omega arith), refl)

pub no_others : (r : Rule) (b : ℕ) → fine r ≡ true → Idle r b → idle r b ≡ true
unfolding idle fine plus minus
no_others (takes a b r) e f z = rate_some a b r e (ordered a b _ f) (λ g le. (z g le).1)
no_others (gives a b r) e f z = rate_some a b r e (ordered a b _ f) (λ g le. (z g le).0)
no_others (takes_sum a b s) e f z = sum_some a b s e (ordered a b _ f) (λ g le. (z g le).1)
no_others (gives_sum a b s) e f z = sum_some a b s e (ordered a b _ f) (λ g le. (z g le).0)
no_others (fades a r s) e f z =
    let y = (z 0 (omega arith)).0 in
    let d : 0 - a ≡ 0 = omega arith in
    eq-eqb s 0 (omega (arith, ap (λ n. r * n) d))
