-- What the hinges of rules say: net, the slope, the breakpoints below; and the segment that ends with a gross.
use Rattle.std.proofs.Common.{◌≡◌, ℕ, zero, suc, ◌+◌, ◌-◌, ◌*◌, ◌/◌, ◌<◌, ◌≤◌, true, ◌||◌, leb, List, [], ◌∷◌, ◌++◌, length, pos, ◌+ℤ◌, ◌-ℤ◌, ◌*ℤ◌, neg_ℤ, nat_abs, min, sym, refl, ap, ◌∙◌, inl, inr, arith}
use Rattle.std.specs.List.{AllByRecursion}
use Rattle.std.proofs.lemmas.List.{map-append, length-append}
use Rattle.std.proofs.lemmas.Int.{ints}
use Rattle.std.proofs.lemmas.Bool.{and_parts, or_cases, le-leb, lt-leb, leb-true}
use Rattle.std.proofs.lemmas.Bool.Decides.{nat_tests}
use Rattle.raise.specs.Rules.{Rule, takes, gives, takes_sum, gives_sum, fades, all_plus, all_minus}
use Rattle.raise.specs.Calls.{fine}
use Rattle.raise.specs.Net.{net, breaks, breakpoints, clear, slope, on_line}
use Rattle.raise.proofs.Straight.{net_more, net_straight}
use Rattle.segments.proofs.Paces.{neg_abs}
use Rattle.book.specs.Held.{all_fine, Within}
use Rattle.hinges.specs.declared.hinge.Hinge.{Hinge}
use Rattle.hinges.specs.Below.{nearer_below, greatest_below, breakpoint_below}
use Rattle.hinges.specs.Hinges.{bends, turns, ats, last_gross, hinges_of, of_rules, hinges, SizedHinge, HingesOf, HingesTell, SegmentsTell}
use Rattle.hinges.proofs.Adding.{bends_joined, turns_joined, few_of}
use Rattle.hinges.proofs.Points.{greatest_last, breakpoints_below}
use Rattle.hinges.proofs.Shares.{share_is, slope_is}

-- ---- net and the slope

rules_bend : (rs : List Rule) (g : ℕ) → all_fine rs ≡ true → g < last_gross → pos (10000 * g) +ℤ bends (of_rules rs) g ≡ net rs g
unfolding all_fine of_rules bends all_plus all_minus
rules_bend [] g h low = omega (arith, ints)
rules_bend (r ∷ rs) g h low =
    let p = and_parts (fine r) (all_fine rs) h in
    omega (arith, ints, bends_joined (hinges_of r) (of_rules rs) g, share_is r g p.0 low, rules_bend rs g p.1 low, net_more r rs g)

rules_turn : (rs : List Rule) (g : ℕ) → all_fine rs ≡ true → g < last_gross → pos 10000 +ℤ turns (of_rules rs) g ≡ slope rs g
unfolding all_fine of_rules turns slope
rules_turn [] g h low = omega (arith, ints)
rules_turn (r ∷ rs) g h low =
    let p = and_parts (fine r) (all_fine rs) h in
    omega (arith, ints, turns_joined (hinges_of r) (of_rules rs) g, slope_is r g p.0 low, rules_turn rs g p.1 low)

-- ---- breakpoints

-- a hinge that is farther than every gross is below none
near : (x y m : ℕ) → x ≤ 1000000001 → nearer_below x (min y last_gross) m ≡ nearer_below x y m
near x y m le = grind arith

none_at_zero : (x m : ℕ) → nearer_below x 0 m ≡ m
none_at_zero x m = grind arith

rule_below : (r : Rule) (xs : List ℕ) (x m : ℕ) → x ≤ 1000000001 → greatest_below (ats (hinges_of r) ++ xs) x m ≡ greatest_below (breaks r xs) x m
unfolding greatest_below
rule_below (takes a b r) xs x m le = refl
rule_below (gives a b r) xs x m le = refl
rule_below (takes_sum a b s) xs x m le = refl
rule_below (gives_sum a b s) xs x m le = refl
rule_below (fades a zero s) xs x m le = ap (λ (n : ℕ). greatest_below xs x (nearer_below x a n)) (none_at_zero x m)
rule_below (fades a (suc r) s) xs x m le =
    ap (λ (n : ℕ). greatest_below xs x (nearer_below x (min (suc (a + 10000 * s / suc r)) last_gross) (nearer_below x a n))) (none_at_zero x m) ∙
    ap (greatest_below xs x) (near x (suc (a + 10000 * s / suc r)) (nearer_below x a m) le)

breaks_below : (r : Rule) (xs ys : List ℕ) (x m : ℕ) → ((n : ℕ) → greatest_below xs x n ≡ greatest_below ys x n) → greatest_below (breaks r xs) x m ≡ greatest_below (breaks r ys) x m
unfolding greatest_below
breaks_below (takes a b r) xs ys x m e = e _
breaks_below (gives a b r) xs ys x m e = e _
breaks_below (takes_sum a b s) xs ys x m e = e _
breaks_below (gives_sum a b s) xs ys x m e = e _
breaks_below (fades a zero s) xs ys x m e = e _
breaks_below (fades a (suc r) s) xs ys x m e = e _

rules_below : (rs : List Rule) (x m : ℕ) → x ≤ 1000000001 → greatest_below (ats (of_rules rs)) x m ≡ greatest_below (breakpoints rs) x m
unfolding greatest_below of_rules breakpoints
rules_below [] x m le = sym (none_at_zero x m)
rules_below (r ∷ rs) x m le =
    ap (λ (xs : List ℕ). greatest_below xs x m) (map-append (λ (h : Hinge). h.at) (hinges_of r) (of_rules rs)) ∙
    rule_below r (ats (of_rules rs)) x m le ∙ breaks_below r (ats (of_rules rs)) (breakpoints rs) x m (λ n. rules_below rs x n le)

-- ---- sizes

all_joined : (hs ks : List Hinge) → AllByRecursion SizedHinge hs → AllByRecursion SizedHinge ks → AllByRecursion SizedHinge (hs ++ ks)
all_joined [] ks a b = b
all_joined (h ∷ hs) ks a b = (a.0, all_joined hs ks a.1 b)

neg_neg_abs : (n : ℕ) → nat_abs (neg_ℤ (neg_ℤ (pos n))) ≡ n
neg_neg_abs zero = refl
neg_neg_abs (suc n) = refl

rule_sized : (r : Rule) → fine r ≡ true → AllByRecursion SizedHinge (hinges_of r)
unfolding fine
rule_sized (takes a b r) h = let l : r ≤ 20000 = grind (arith, nat_tests) in ((omega arith, omega (arith, l, neg_abs r)), ((omega arith, omega (arith, l, neg_neg_abs r)), tt))
rule_sized (gives a b r) h = let l : r ≤ 20000 = grind (arith, nat_tests) in ((omega arith, l), ((omega arith, omega (arith, l, neg_abs r)), tt))
rule_sized (takes_sum a b s) h =
    let l : s ≤ 100000000 = grind (arith, nat_tests) in
    ((omega (arith, l, neg_abs (10000 * s)), omega arith), ((omega (arith, l, neg_neg_abs (10000 * s)), omega arith), tt))
rule_sized (gives_sum a b s) h =
    let l : s ≤ 100000000 = grind (arith, nat_tests) in
    ((omega (arith, l), omega arith), ((omega (arith, l, neg_abs (10000 * s)), omega arith), tt))
rule_sized (fades a zero s) h = let l : s ≤ 100000000 = grind (arith, nat_tests) in ((omega (arith, l), omega arith), ((omega arith, omega arith), tt))
rule_sized (fades a (suc r) s) h =
    let l : s ≤ 100000000 = grind (arith, nat_tests) in
    let k : suc r ≤ 20000 = grind (arith, nat_tests) in
    ((omega (arith, l), omega arith), ((omega arith, k), ((omega (arith, k), k), tt)))

rules_sized : (rs : List Rule) → all_fine rs ≡ true → (length (of_rules rs) ≤ 3 * length rs) × AllByRecursion SizedHinge (of_rules rs)
unfolding all_fine of_rules
rules_sized [] h = (omega arith, tt)
rules_sized (r ∷ rs) h =
    let p = and_parts (fine r) (all_fine rs) h in
    let one = rule_sized r p.0 in
    let others = rules_sized rs p.1 in
    (omega (arith, length-append (hinges_of r) (of_rules rs), few_of r, others.0), all_joined (hinges_of r) (of_rules rs) one others.1)

pub tell : HingesTell
unfolding bends turns greatest_below
tell rs w =
    let z = rules_sized rs w.fine in
    record {
      sized = (omega (arith, z.0, w.few), ((omega arith, omega arith), z.1));
      net = λ g le. let t : leb 0 g ≡ true = le-leb 0 g (omega arith) in let n : g - 0 ≡ g = omega arith in rw (t, n) (omega (arith, ints, rules_bend rs g w.fine (omega (arith, le))));
      slope = λ g le. let t : leb 0 g ≡ true = le-leb 0 g (omega arith) in rw t (rules_turn rs g w.fine (omega (arith, le)));
      below = λ x le. ap (greatest_below (ats (of_rules rs)) x) (none_at_zero x 0) ∙ rules_below rs x 0 le;
    }

pub tell_of : (rs : List Rule) (hs : List Hinge) → hs ≡ hinges rs → Within rs → HingesOf rs hs
tell_of rs hs e w = rw e (tell rs w)

-- ---- the segment

-- along a stretch without hinges inside the slope is the same
along : (hs : List Hinge) (y x g : ℕ) → clear (ats hs) y x ≡ true → y ≤ g → g < x → turns hs g ≡ turns hs y
unfolding turns clear
along [] y x g c lo hi = refl
along (h ∷ hs) y x g c lo hi =
    let p = and_parts (leb h.at y || leb x h.at) _ c in
    let e : leb h.at g ≡ leb h.at y =
    elim (or_cases (leb h.at y) (leb x h.at) p.0) [
      | inl under ↦ let l = leb-true _ _ under in le-leb h.at g (omega (arith, l, lo)) ∙ sym under
      | inr above ↦ let l = leb-true _ _ above in lt-leb h.at g (omega (arith, l, hi)) ∙ sym (lt-leb h.at y (omega (arith, l, lo, hi)))
    ] in
    rw (e, along hs y x g p.1 lo hi) refl

pub segments_tell : SegmentsTell
segments_tell rs hs g i le =
    let x = suc g in
    let y = breakpoint_below rs x in
    let b = breakpoints_below rs x (omega arith) in
    let e : greatest_below (ats hs) x 0 ≡ y = i.below x (omega (arith, le)) in
    let lo : y ≤ g = omega (arith, b.below) in
    let c : clear (ats hs) y x ≡ true = rw e at ((greatest_last (ats hs) x 0 (omega arith)).between) in
    let s : turns hs g ≡ slope rs y = along hs y x g c lo (omega arith) ∙ i.slope y (omega (arith, lo, le)) in
    let n : bends hs g ≡ on_line y (net rs y) (slope rs y) g = i.net g le ∙ net_straight rs y x b.between g lo (omega arith) in
    let v : bends hs g -ℤ (slope rs y *ℤ pos (g - y)) ≡ net rs y = omega (arith, ints, n) in
    rw (e, s, v) refl
