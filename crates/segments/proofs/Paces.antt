-- The slope, rule by rule; how large it gets, and net.
use Rattle.std.proofs.Common.{◌≡◌, ℕ, zero, suc, ◌+◌, ◌-◌, ◌*◌, ◌<◌, ◌≤◌, Bool, true, false, List, [], ◌∷◌, ◌++◌, length, get_or, take, ℤ, pos, negsuc, ◌+ℤ◌, ◌-ℤ◌, neg_ℤ, nat_abs, sym, refl, ap, ◌∙◌, inl, inr, arith, w64, SFits, to_z, of_z}
use lib.Signed.{mag}
use Rattle.std.proofs.lemmas.List.{map_more, length-map, length-take-le}
use Rattle.std.proofs.lemmas.Int.{ints, to_z-of_z, fits_signed_from_abs}
use Rattle.std.proofs.lemmas.Bool.{cases_lt, and_parts}
use Rattle.std.proofs.lemmas.Bool.Decides.{nat_tests}
use Rattle.raise.specs.Rules.{pick, Rule, takes, gives, takes_sum, gives_sum, fades, all_plus, all_minus}
use Rattle.raise.specs.Calls.{fine}
use Rattle.raise.specs.Net.{pace, net, slope}
use Rattle.wire.specs.declared.calls.Rule as declared
use Rattle.wire.specs.Meaning.{meant}
use Rattle.book.specs.Held.{all_fine, Within}
use Rattle.book.specs.Meant.{all_meant}
use Rattle.book.proofs.Sums.{within_take, sums_size}
use Rattle.segments.specs.Bits.{marked, nth_holds, Holding, slope_on}

-- ---- one rule more

pub slope_push : (test : ℕ → Bool) (rs : List Rule) (r : Rule) → slope_on test (rs ++ (r ∷ [])) ≡ slope_on test rs +ℤ pick (test (length rs)) (pace r) (pos 0)
unfolding slope_on
slope_push test [] r = omega (arith, ints)
slope_push test (q ∷ rs) r = omega (arith, ints, slope_push (λ i. test (suc i)) rs r)

-- ---- by the rules that hold

slope_same : (test : ℕ → Bool) (rs : List Rule) (g : ℕ) → ((i : ℕ) → test i ≡ nth_holds rs g i) → slope_on test rs ≡ slope rs g
unfolding slope_on slope
slope_same test [] g e = refl
slope_same test (r ∷ rs) g e = rw (e 0, slope_same (λ i. test (suc i)) rs g (λ i. e (suc i))) refl

pub slope_held : (rs : List Rule) (g m : ℕ) → Holding rs g m → slope_on (marked m) rs ≡ slope rs g
slope_held rs g m h = slope_same (marked m) rs g h

-- those that hold pass the test
slope_as_on : (rs : List Rule) (g : ℕ) → slope rs g ≡ slope_on (nth_holds rs g) rs
slope_as_on rs g = sym (slope_same (nth_holds rs g) rs g (λ i. refl))

-- ---- sizes

pub neg_abs : (n : ℕ) → nat_abs (neg_ℤ (pos n)) ≡ n
neg_abs zero = refl
neg_abs (suc n) = refl

pub sum_abs : (y z : ℤ) → nat_abs (y +ℤ z) ≤ nat_abs y + nat_abs z
sum_abs (pos a) (pos b) = omega arith
sum_abs (pos a) (negsuc b) = grind (arith, ints)
sum_abs (negsuc a) (pos b) = grind (arith, ints)
sum_abs (negsuc a) (negsuc b) = omega arith

pace_size : (r : Rule) → fine r ≡ true → nat_abs (pace r) ≤ 20000
unfolding fine
pace_size (takes a b r) h = omega (arith, neg_abs r, rate)
  where
    rate : r ≤ 20000
    rate = grind (arith, nat_tests)
pace_size (gives a b r) h = grind (arith, nat_tests)
pace_size (takes_sum a b s) h = omega arith
pace_size (gives_sum a b s) h = omega arith
pace_size (fades a r s) h = omega (arith, neg_abs r, rate)
  where
    rate : r ≤ 20000
    rate = grind (arith, nat_tests)

picked_size : (t : Bool) (z : ℤ) → nat_abs z ≤ 20000 → nat_abs (pick t z (pos 0)) ≤ 20000
picked_size true z h = h
picked_size false z h = omega arith

slope_size : (test : ℕ → Bool) (rs : List Rule) → all_fine rs ≡ true → nat_abs (slope_on test rs) ≤ 10000 + 20000 * length rs
unfolding slope_on all_fine
slope_size test [] h = omega arith
slope_size test (r ∷ rs) h =
    let p = and_parts (fine r) (all_fine rs) h in
    let one = picked_size (test 0) (pace r) (pace_size r p.0) in
    let others = slope_size (λ i. test (suc i)) rs p.1 in
    omega (arith, one, others, sum_abs (pick (test 0) (pace r) (pos 0)) (slope_on (λ i. test (suc i)) rs))

on_small : (test : ℕ → Bool) (rs : List Rule) → Within rs → nat_abs (slope_on test rs) ≤ 1290000
on_small test rs w = omega (arith, slope_size test rs w.fine, w.few)

-- ---- a slice, one rule more

module _ (rules : List declared.Rule) (w : Within (all_meant rules)) (m i : ℕ) (d : declared.Rule) (l : i < length rules) where
  -- the slope by the first n rules
  up_to : ℕ → ℤ
  up_to n = slope_on (marked m) (all_meant (take n rules))

  one_more : (t : Bool) → t ≡ marked m i → up_to (i + 1) ≡ up_to i +ℤ pick t (pace (meant (get_or rules i d))) (pos 0)
  unfolding up_to
  one_more t e =
      ap (slope_on (marked m)) (map_more meant rules i d l) ∙ slope_push (marked m) (all_meant (take i rules)) (meant (get_or rules i d)) ∙
      ap (λ (n : ℕ). slope_on (marked m) (all_meant (take i rules)) +ℤ pick (marked m n) (pace (meant (get_or rules i d))) (pos 0)) (length-map (take i rules) meant ∙ length-take-le i rules (omega arith)) ∙
      ap (λ (b : Bool). slope_on (marked m) (all_meant (take i rules)) +ℤ pick b (pace (meant (get_or rules i d))) (pos 0)) (sym e)

  fits : SFits w64 (up_to (i + 1))
  unfolding up_to
  fits = fits_signed_from_abs w64 _ (omega (arith, on_small (marked m) (all_meant (take (i + 1) rules)) (within_take rules (i + 1) w)))

  pub not_added : (x : ℤ) → x ≡ slope_on (marked m) (all_meant (take i rules)) → false ≡ marked m i → x ≡ slope_on (marked m) (all_meant (take (i + 1) rules))
  unfolding up_to
  not_added x e t = omega (arith, ints, one_more false t)

  module _ (x p : ℤ) (e : x ≡ slope_on (marked m) (all_meant (take i rules))) (f : p ≡ pace (meant (get_or rules i d))) (ok : mag p < 9223372036854775808) (t : true ≡ marked m i) where
    sum_is : x +ℤ to_z w64 (of_z w64 p) ≡ up_to (i + 1)
    unfolding up_to
    sum_is = let s = one_more true t in ap (λ (z : ℤ). x +ℤ z) (to_z-of_z w64 p (record { sfits = ok })) ∙ cc

    pub sum_fits : SFits w64 (x +ℤ to_z w64 (of_z w64 p))
    sum_fits = rw sum_is fits

    pub added : to_z w64 (of_z w64 (x +ℤ to_z w64 (of_z w64 p))) ≡ slope_on (marked m) (all_meant (take (i + 1) rules))
    unfolding up_to
    added = ap (λ (z : ℤ). to_z w64 (of_z w64 z)) sum_is ∙ to_z-of_z w64 (up_to (i + 1)) fits

-- ---- sizes of what a segment has

pub slope_small : (rs : List Rule) (g : ℕ) → Within rs → nat_abs (slope rs g) ≤ 1290000
slope_small rs g w = rw (slope_as_on rs g) (on_small (nth_holds rs g) rs w)

less_abs : (p m k : ℕ) → p ≤ k → m ≤ k → nat_abs (pos p -ℤ pos m) ≤ k
less_abs p m k hp hm =
    elim (cases_lt p m) [
      | inl under ↦ let e : pos p -ℤ pos m ≡ neg_ℤ (pos (m - p)) = omega (arith, ints) in rw e (omega (arith, neg_abs (m - p)))
      | inr over ↦ let e : pos p -ℤ pos m ≡ pos (p - m) = omega (arith, ints) in rw e (omega arith)
    ]

pub net_small : (rs : List Rule) (g : ℕ) → Within rs → g ≤ 1000000000 → nat_abs (net rs g) ≤ 1290000000000000
net_small rs g w h = let s = sums_size rs g w.fine in less_abs (all_plus rs g) (all_minus rs g) _ (omega (arith, s.0, w.few)) (omega (arith, s.1, w.few))
