-- Sums over hinges: lists one after the other, one hinge more, and how large they get.
use Rattle.std.proofs.Common.{◌≡◌, ℕ, zero, suc, ◌+◌, ◌-◌, ◌*◌, ◌<◌, ◌≤◌, Bool, true, false, leb, List, [], ◌∷◌, ◌++◌, length, get_or, take, ℤ, pos, negsuc, ◌+ℤ◌, ◌-ℤ◌, ◌*ℤ◌, nat_abs, sym, refl, ap, ◌∙◌, arith, w64, to_z, of_z}
use Rattle.std.specs.List.{AllByRecursion}
use Rattle.std.proofs.lemmas.Nat.{mul-le}
use Rattle.std.proofs.lemmas.List.{take_more, map_more, length-take-le, length-append, append_assoc, append-nil}
use Rattle.std.proofs.lemmas.Int.{ints, unsigned_abs-mul, to_z-of_z, fits_signed_from_abs}
use Rattle.raise.specs.Rules.{pick, Rule, takes, gives, takes_sum, gives_sum, fades}
use Rattle.raise.specs.Net.{on_line}
use Rattle.wire.specs.declared.calls.Rule as declared
use Rattle.wire.specs.Meaning.{meant}
use Rattle.book.specs.Meant.{all_meant}
use Rattle.segments.proofs.Paces.{sum_abs}
use Rattle.hinges.specs.declared.hinge.Hinge.{Hinge}
use Rattle.hinges.specs.Below.{nearer_below, greatest_below}
use Rattle.hinges.specs.Hinges.{bend, turn, bends, turns, hinges_of, of_rules, hinges, SizedHinge, Sized}

-- ---- one list after the other

pub bends_joined : (hs ks : List Hinge) (g : ℕ) → bends (hs ++ ks) g ≡ bends hs g +ℤ bends ks g
unfolding bends
bends_joined [] ks g = omega (arith, ints)
bends_joined (h ∷ hs) ks g = omega (arith, ints, bends_joined hs ks g)

pub turns_joined : (hs ks : List Hinge) (g : ℕ) → turns (hs ++ ks) g ≡ turns hs g +ℤ turns ks g
unfolding turns
turns_joined [] ks g = omega (arith, ints)
turns_joined (h ∷ hs) ks g = omega (arith, ints, turns_joined hs ks g)

pub below_joined : (xs ys : List ℕ) (x m : ℕ) → greatest_below (xs ++ ys) x m ≡ greatest_below ys x (greatest_below xs x m)
unfolding greatest_below
below_joined [] ys x m = refl
below_joined (y ∷ xs) ys x m = below_joined xs ys x (nearer_below x y m)

-- ---- one hinge more

pub bends_more : (hs : List Hinge) (i g : ℕ) (d : Hinge) → i < length hs → bends (take (i + 1) hs) g ≡ bends (take i hs) g +ℤ bend (get_or hs i d) g
unfolding bends
bends_more hs i g d l = let h = get_or hs i d in ap (λ (qs : List Hinge). bends qs g) (take_more hs i d l) ∙ bends_joined (take i hs) (h ∷ []) g ∙ omega (arith, ints)

pub turns_more : (hs : List Hinge) (i g : ℕ) (d : Hinge) → i < length hs → turns (take (i + 1) hs) g ≡ turns (take i hs) g +ℤ turn (get_or hs i d) g
unfolding turns
turns_more hs i g d l = let h = get_or hs i d in ap (λ (qs : List Hinge). turns qs g) (take_more hs i d l) ∙ turns_joined (take i hs) (h ∷ []) g ∙ omega (arith, ints)

-- ---- sizes

pub line_size : (h : Hinge) (g : ℕ) → SizedHinge h → g ≤ 1000000000 → nat_abs (on_line h.at h.jump h.pace g) ≤ 21000000000000
line_size h g z le = omega (arith, sum_abs h.jump (h.pace *ℤ pos (g - h.at)), product, z.0)
  where
    product : nat_abs (h.pace *ℤ pos (g - h.at)) ≤ 20000000000000
    product = rw (unsigned_abs-mul h.pace (pos (g - h.at))) (omega (arith, mul-le (nat_abs h.pace) (g - h.at) 20000 1000000000 z.1 (omega (arith, le))))

picked_size : (t : Bool) (z : ℤ) (k : ℕ) → nat_abs z ≤ k → nat_abs (pick t z (pos 0)) ≤ k
picked_size true z k h = h
picked_size false z k h = omega arith

bend_size : (h : Hinge) (g : ℕ) → SizedHinge h → g ≤ 1000000000 → nat_abs (bend h g) ≤ 21000000000000
bend_size h g z le = picked_size (leb h.at g) _ 21000000000000 (line_size h g z le)

bends_size : (hs : List Hinge) (g : ℕ) → AllByRecursion SizedHinge hs → g ≤ 1000000000 → nat_abs (bends hs g) ≤ 21000000000000 * length hs
unfolding bends
bends_size [] g z le = omega arith
bends_size (h ∷ hs) g z le = omega (arith, bends_size hs g z.1 le, bend_size h g z.0 le, sum_abs (bend h g) (bends hs g))

turn_size : (h : Hinge) (g : ℕ) → SizedHinge h → nat_abs (turn h g) ≤ 20000
turn_size h g z = picked_size (leb h.at g) h.pace 20000 z.1

turns_size : (hs : List Hinge) (g : ℕ) → AllByRecursion SizedHinge hs → nat_abs (turns hs g) ≤ 20000 * length hs
unfolding turns
turns_size [] g z = omega arith
turns_size (h ∷ hs) g z = omega (arith, turns_size hs g z.1, turn_size h g z.0, sum_abs (turn h g) (turns hs g))

all_take : (hs : List Hinge) (i : ℕ) → AllByRecursion SizedHinge hs → AllByRecursion SizedHinge (take i hs)
all_take hs zero z = tt
all_take [] (suc i) z = tt
all_take (h ∷ hs) (suc i) z = (z.0, all_take hs i z.1)

pub sized_at : (hs : List Hinge) (i : ℕ) (d : Hinge) → AllByRecursion SizedHinge hs → i < length hs → SizedHinge (get_or hs i d)
sized_at [] i d z l = absurd (omega arith)
sized_at (h ∷ hs) zero d z l = z.0
sized_at (h ∷ hs) (suc i) d z l = sized_at hs i d z.1 (omega arith)

-- what is so small is a number of 64 bits
pub kept : (z : ℤ) → nat_abs z ≤ 5000000000000000 → to_z w64 (of_z w64 z) ≡ z
kept z le = to_z-of_z w64 z (fits_signed_from_abs w64 z (omega (arith, le)))

pub kept_sum : (x y : ℤ) → nat_abs x ≤ 4053000000000000 → nat_abs y ≤ 21000000000000 → to_z w64 (of_z w64 (to_z w64 (of_z w64 x) +ℤ to_z w64 (of_z w64 y))) ≡ x +ℤ y
kept_sum x y p q = rw (kept x (omega (arith, p)), kept y (omega (arith, q))) (kept (x +ℤ y) (omega (arith, p, q, sum_abs x y)))

sub_abs : (y z : ℤ) → nat_abs (y -ℤ z) ≤ nat_abs y + nat_abs z
sub_abs (pos a) (pos b) = grind (arith, ints)
sub_abs (pos a) (negsuc b) = grind (arith, ints)
sub_abs (negsuc a) (pos b) = grind (arith, ints)
sub_abs (negsuc a) (negsuc b) = grind (arith, ints)

pub kept_difference : (x y : ℤ) → nat_abs x ≤ 4053000000000000 → nat_abs y ≤ 21000000000000 → to_z w64 (of_z w64 (to_z w64 (of_z w64 x) -ℤ to_z w64 (of_z w64 y))) ≡ x -ℤ y
kept_difference x y p q = rw (kept x (omega (arith, p)), kept y (omega (arith, q))) (kept (x -ℤ y) (omega (arith, p, q, sub_abs x y)))

-- the sum over the first of them leaves room
pub room : (hs : List Hinge) (i g : ℕ) → Sized hs → g ≤ 1000000000 → i ≤ length hs → (nat_abs (bends (take i hs) g) ≤ 4053000000000000) × (nat_abs (turns (take i hs) g) ≤ 3860000)
room hs i g z le l =
    let a = all_take hs i z.1 in
    let n : length (take i hs) ≡ i = length-take-le i hs l in
    (omega (arith, bends_size (take i hs) g a le, n, z.0), omega (arith, turns_size (take i hs) g a, n, z.0))

-- ---- one rule more

rules_joined : (rs qs : List Rule) → of_rules (rs ++ qs) ≡ of_rules rs ++ of_rules qs
unfolding of_rules
rules_joined [] qs = refl
rules_joined (r ∷ rs) qs = ap (λ (hs : List Hinge). hinges_of r ++ hs) (rules_joined rs qs) ∙ sym (append_assoc (hinges_of r) (of_rules rs) (of_rules qs))

pub rule_more : (rules : List declared.Rule) (i : ℕ) (d : declared.Rule) (hs : List Hinge) → i < length rules → hs ≡ hinges (all_meant (take i rules)) →
    hs ++ hinges_of (meant (get_or rules i d)) ≡ hinges (all_meant (take (i + 1) rules))
unfolding of_rules
rule_more rules i d hs l e =
    let r = meant (get_or rules i d) in
    let so_far = all_meant (take i rules) in
    rw e (ap (λ (ks : List Hinge). record { at = 0; jump = pos 0; pace = pos 10000 } ∷ ks)
    (ap (λ (ks : List Hinge). of_rules so_far ++ ks) (sym (append-nil (hinges_of r))) ∙ sym (rules_joined so_far (r ∷ [])) ∙ ap of_rules (sym (map_more meant rules i d l))))

pub few_of : (r : Rule) → length (hinges_of r) ≤ 3
few_of (takes a b r) = omega arith
few_of (gives a b r) = omega arith
few_of (takes_sum a b s) = omega arith
few_of (gives_sum a b s) = omega arith
few_of (fades a zero s) = omega arith
few_of (fades a (suc r) s) = omega arith

pub few_more : (hs : List Hinge) (r : Rule) (i : ℕ) → length hs ≤ 3 * i + 1 → length (hs ++ hinges_of r) ≤ 3 * (i + 1) + 1
few_more hs r i l = omega (arith, length-append hs (hinges_of r), few_of r)
