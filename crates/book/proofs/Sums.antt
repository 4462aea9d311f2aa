-- Sums over rules: one rule more at the end, and how large they get.
use Rattle.std.proofs.Common.{◌≡◌, ℕ, zero, suc, ◌+◌, ◌-◌, ◌*◌, ◌<◌, ◌≤◌, true, List, [], ◌∷◌, ◌++◌, map, length, get_or, take, sym, refl, ap, ◌∙◌, arith}
use Rattle.std.proofs.lemmas.Nat.{mul-le}
use Rattle.std.proofs.lemmas.List.{map_more, length-map, length-take}
use Rattle.std.proofs.lemmas.Bool.{and_parts, and_from}
use Rattle.std.proofs.lemmas.Bool.Decides.{nat_tests}
use Rattle.raise.specs.Rules.{lesser, Rule, takes, gives, takes_sum, gives_sum, fades, plus, minus, all_plus, all_minus}
use Rattle.raise.specs.Calls.{fine}
use Rattle.wire.specs.declared.calls.Rule as declared
use Rattle.wire.specs.Meaning.{meant}
use Rattle.book.specs.Held.{all_fine, Within, AmountsFit}

-- ---- one more

plus_push : (rs : List Rule) (r : Rule) (g : ℕ) → all_plus (rs ++ (r ∷ [])) g ≡ all_plus rs g + plus r g
unfolding all_plus
plus_push [] r g = omega arith
plus_push (q ∷ rs) r g = omega (arith, plus_push rs r g)

minus_push : (rs : List Rule) (r : Rule) (g : ℕ) → all_minus (rs ++ (r ∷ [])) g ≡ all_minus rs g + minus r g
unfolding all_minus
minus_push [] r g = omega arith
minus_push (q ∷ rs) r g = omega (arith, minus_push rs r g)

-- ---- sizes

-- the most that one rule in range lets in or out
abbrev most : ℕ
most = 20000000000000

rate_size : (r x : ℕ) → r ≤ 20000 → x ≤ 1000000000 → r * x ≤ most
rate_size r x p q = omega (arith, mul-le r x 20000 1000000000 p q)

one_size : (r : Rule) (g : ℕ) → fine r ≡ true → (plus r g ≤ most) × (minus r g ≤ most)
unfolding fine plus minus
one_size (takes a b r) g h = (omega arith, rate_size r (lesser g b - a) (grind (arith, nat_tests)) (grind (arith, nat_tests)))
one_size (gives a b r) g h = (rate_size r (lesser g b - a) (grind (arith, nat_tests)) (grind (arith, nat_tests)), omega arith)
one_size (takes_sum a b s) g h = (omega arith, grind (arith, nat_tests))
one_size (gives_sum a b s) g h = (grind (arith, nat_tests), omega arith)
one_size (fades a r s) g h = let l : s ≤ 100000000 = grind (arith, nat_tests) in (omega arith, omega arith)

pub sums_size : (rs : List Rule) (g : ℕ) → all_fine rs ≡ true → (all_plus rs g ≤ 10000 * g + most * length rs) × (all_minus rs g ≤ most * length rs)
unfolding all_fine all_plus all_minus
sums_size [] g h = (omega arith, omega arith)
sums_size (r ∷ rs) g h =
    let p = and_parts (fine r) (all_fine rs) h in
    let s = one_size r g p.0 in
    let t = sums_size rs g p.1 in
    (omega (arith, s.0, t.0), omega (arith, s.1, t.1))

fine_take : (rs : List declared.Rule) (i : ℕ) → all_fine (map meant rs) ≡ true → all_fine (map meant (take i rs)) ≡ true
unfolding all_fine
fine_take rs zero h = refl
fine_take [] (suc i) h = refl
fine_take (r ∷ rs) (suc i) h = let p = and_parts (fine (meant r)) (all_fine (map meant rs)) h in and_from (fine (meant r)) (all_fine (map meant (take i rs))) p.0 (fine_take rs i p.1)

-- the first of rules that a book can hold are such rules
pub within_take : (rs : List declared.Rule) (i : ℕ) → Within (map meant rs) → Within (map meant (take i rs))
within_take rs i w =
    let n : length (map meant (take i rs)) ≤ length (map meant rs) = omega (arith, length-map (take i rs) meant, length-map rs meant, length-take i rs) in
    record { few = omega (arith, w.few); fine = fine_take rs i w.fine }

pub amounts_fit : AmountsFit
amounts_fit rs g w l = let s = sums_size rs g w.fine in let few = w.few in (omega (arith, s.0), omega (arith, s.1))

-- what the i-th lets in and out on top of what those before it do, and that it fits
pub record Adds (rs : List declared.Rule) (i g inflow outflow : ℕ) : Type 0 where
  pub plus : all_plus (map meant (take (i + 1) rs)) g ≡ all_plus (map meant (take i rs)) g + inflow
  pub minus : all_minus (map meant (take (i + 1) rs)) g ≡ all_minus (map meant (take i rs)) g + outflow
  pub inflow_fits : all_plus (map meant (take i rs)) g + inflow < 9223372036854775808
  pub outflow_fits : all_minus (map meant (take i rs)) g + outflow < 9223372036854775808

pub one_more : (rs : List declared.Rule) (i g inflow outflow : ℕ) (d : declared.Rule) → Within (map meant rs) → g < 4294967296 → i < length rs →
    inflow ≡ plus (meant (get_or rs i d)) g → outflow ≡ minus (meant (get_or rs i d)) g → Adds rs i g inflow outflow
one_more rs i g inflow outflow d w low l p m =
    let r = meant (get_or rs i d) in
    let e = map_more meant rs i d l in
    let so_far = map meant (take i rs) in
    let a = ap (λ (qs : List Rule). all_plus qs g) e ∙ plus_push so_far r g ∙ ap (λ (y : ℕ). all_plus so_far g + y) (sym p) in
    let b = ap (λ (qs : List Rule). all_minus qs g) e ∙ minus_push so_far r g ∙ ap (λ (y : ℕ). all_minus so_far g + y) (sym m) in
    let f = amounts_fit (map meant (take (i + 1) rs)) g (within_take rs (i + 1) w) low in
    record { plus = a; minus = b; inflow_fits = omega (arith, a, f.0); outflow_fits = omega (arith, b, f.1) }
