-- Between its breakpoints each rule's share goes in a straight line; so does net, the sum of all.
use Rattle.std.proofs.Common.{◌≡◌, ℕ, zero, suc, ◌+◌, ◌-◌, ◌*◌, ◌/◌, ◌<◌, ◌≤◌, Bool, true, false, ◌&&◌, ◌||◌, ltb, leb, ◌⊎◌, List, [], ◌∷◌, ℤ, pos, ◌+ℤ◌, ◌-ℤ◌, ◌*ℤ◌, neg_ℤ, sym, refl, ap, ◌∙◌, inl, inr, div-lt_iff_lt-mul, le-div_iff_mul-le, mul-add, arith}
use lib.IntN.{zero-*ℤ, negsuc-*ℤ-pos}
use lib.Signed.{lt_z}
use borrow.Author.Differences.{up, down}
use Rattle.std.proofs.lemmas.Nat.{mul-le}
use Rattle.std.proofs.lemmas.Int.{ints}
use Rattle.std.proofs.lemmas.Bool.{or_cases, and_parts, and_from, le-leb, lt-leb, leb-true}
use Rattle.raise.specs.Rules.{pick, lesser, Rule, takes, gives, takes_sum, gives_sum, fades, plus, minus, all_plus, all_minus, less_left}
use Rattle.raise.specs.Promise.{borders}
use Rattle.raise.specs.Net.{net, share, Straight, breaks, breakpoints, clear, SameOrPast, slope_by, slope}
use Rattle.raise.proofs.Lines.{scaled}

pub net_order : (rs : List Rule) (g h : ℕ) → less_left rs g h ≡ lt_z (net rs h) (net rs g)
net_order rs g h = grind (arith, ints)

-- ---- one rule

-- x is not after `from`, up to g
abbrev pub Off : ℕ → ℕ → ℕ → Type 0
Off from g x = (x ≤ from) ⊎ (g < x)

pub minus_times : (r k : ℕ) → neg_ℤ (pos r) *ℤ pos k ≡ neg_ℤ (pos (r * k))
minus_times zero k = let z : 0 * k ≡ 0 = omega arith in zero-*ℤ (pos k) ∙ sym (ap (λ n. neg_ℤ (pos n)) z)
minus_times (suc r) k = negsuc-*ℤ-pos r k

-- what a rule takes, what it gives, what is left of a fade, and a sum: each by its pace where the test passes
down_by : (t : Bool) (r k x y : ℕ) → y ≡ x + pick t r 0 * k → (pos 0 -ℤ pos y) ≡ (pos 0 -ℤ pos x) +ℤ (pick t (neg_ℤ (pos r)) (pos 0) *ℤ pos k)
down_by true r k x y e = omega (arith, ints, minus_times r k)
down_by false r k x y e = omega (arith, ints)

up_by : (t : Bool) (r k x y : ℕ) → y ≡ x + pick t r 0 * k → (pos y -ℤ pos 0) ≡ (pos x -ℤ pos 0) +ℤ (pick t (pos r) (pos 0) *ℤ pos k)
up_by true r k x y e = omega (arith, ints)
up_by false r k x y e = omega (arith, ints)

faded_by : (t : Bool) (r k x y : ℕ) → x ≡ y + pick t r 0 * k → (pos y -ℤ pos 0) ≡ (pos x -ℤ pos 0) +ℤ (pick t (neg_ℤ (pos r)) (pos 0) *ℤ pos k)
faded_by true r k x y e = omega (arith, ints, minus_times r k)
faded_by false r k x y e = omega (arith, ints)

level : (t : Bool) (k : ℕ) (x y : ℤ) → y ≡ x → y ≡ x +ℤ (pick t (pos 0) (pos 0) *ℤ pos k)
level true k x y e = omega (arith, ints)
level false k x y e = omega (arith, ints)

module _ (from g : ℕ) (le : from ≤ g) where
  rate : (a b r : ℕ) → Off from g a → Off from g b → r * (lesser g b - a) ≡ r * (lesser from b - a) + pick (leb a from && ltb from b) r 0 * (g - from)
  rate a b r ca cb = scaled (leb a from && ltb from b) r _ _ _ (grind arith)

  sum : (a b s : ℕ) → Off from g a → Off from g b → pick (leb a g && ltb g b) s 0 ≡ pick (leb a from && ltb from b) s 0
  sum a b s ca cb = grind arith

  -- a sum that fades: all of it before the border, by the rate up to its last unit, nothing after that
  fading : (a r s : ℕ) → Off from g a → Off from g (suc (a + s / suc r)) →
      s - suc r * (from - a) ≡ s - suc r * (g - a) + pick (leb a from && leb from (a + s / suc r)) (suc r) 0 * (g - from)
  fading a r s (inr before) _ =
      let y : from - a ≡ 0 = omega arith in
      let z : g - a ≡ 0 = omega arith in
      let t : leb a from ≡ false = lt-leb a from (omega arith) in
      rw (y, z, t) (omega arith)
  fading a r s (inl begun) (inl past) =
      let t : leb from (a + s / suc r) ≡ false = lt-leb _ _ (omega arith) in
      let u : leb a from ≡ true = le-leb _ _ begun in
      let d : s < (from - a) * suc r = (div-lt_iff_lt-mul {k = suc r} {x = s} {y = from - a} (omega arith)).0 (omega arith) in
      let m : suc r * (from - a) ≤ suc r * (g - a) = mul-le (suc r) (from - a) (suc r) (g - a) (omega arith) (omega arith) in
      rw (t, u) (omega arith)
  fading a r s (inl begun) (inr still) =
      let t : leb from (a + s / suc r) ≡ true = le-leb _ _ (omega arith) in
      let u : leb a from ≡ true = le-leb _ _ begun in
      let d : (g - a) * suc r ≤ s = (le-div_iff_mul-le {k = suc r} {x = g - a} {y = s} (omega arith)).0 (omega arith) in
      let z : g - a ≡ (from - a) + (g - from) = omega arith in
      rw (t, u) (omega (arith, ap (λ n. suc r * n) z, mul-add (suc r) (from - a) (g - from)))

-- what a clear stretch says of the first breakpoint, and of the others
module _ (from to g : ℕ) (lt : g < to) where
  pub off : (x : ℕ) (xs : List ℕ) → clear (x ∷ xs) from to ≡ true → Off from g x × (clear xs from to ≡ true)
  unfolding clear
  off x xs c =
      let p = and_parts (leb x from || leb to x) (clear xs from to) c in (
        elim (or_cases (leb x from) (leb to x) p.0) [ inl under ↦ inl (leb-true _ _ under) | inr above ↦ inr (omega (arith, leb-true _ _ above)) ],
        p.1,
      )

pub share_straight : (r : Rule) (from to : ℕ) → clear (breaks r []) from to ≡ true → Straight (share r) from to (share r from) (slope_by r from)
unfolding plus minus
share_straight (takes a b r) from to c g lo hi =
    let p = off from to g hi a (b ∷ []) c in
    let q = off from to g hi b [] p.1 in
    down_by (leb a from && ltb from b) r (g - from) _ _ (rate from g lo a b r p.0 q.0)
share_straight (gives a b r) from to c g lo hi =
    let p = off from to g hi a (b ∷ []) c in
    let q = off from to g hi b [] p.1 in
    up_by (leb a from && ltb from b) r (g - from) _ _ (rate from g lo a b r p.0 q.0)
share_straight (takes_sum a b s) from to c g lo hi =
    let p = off from to g hi a (b ∷ []) c in
    let q = off from to g hi b [] p.1 in
    level (leb a from && ltb from b) (g - from) _ _ (ap (λ n. pos 0 -ℤ pos n) (sum from g lo a b (10000 * s) p.0 q.0))
share_straight (gives_sum a b s) from to c g lo hi =
    let p = off from to g hi a (b ∷ []) c in
    let q = off from to g hi b [] p.1 in
    level (leb a from && ltb from b) (g - from) _ _ (ap (λ n. pos n -ℤ pos 0) (sum from g lo a b (10000 * s) p.0 q.0))
share_straight (fades a zero s) from to c g lo hi = level (leb a from) (g - from) _ _ (ap (λ n. pos n -ℤ pos 0) (omega arith))
share_straight (fades a (suc r) s) from to c g lo hi =
    let p = off from to g hi a (suc (a + 10000 * s / suc r) ∷ []) c in
    let q = off from to g hi (suc (a + 10000 * s / suc r)) [] p.1 in
    faded_by (leb a from && leb from (a + 10000 * s / suc r)) (suc r) (g - from) _ _ (fading from g lo a r (10000 * s) p.0 q.0)

-- ---- all rules

-- two lines added are a line
pub plus_times : (c d : ℤ) (k : ℕ) → (c +ℤ d) *ℤ pos k ≡ (c *ℤ pos k) +ℤ (d *ℤ pos k)
plus_times c d k =
    let z = c +ℤ d in
    let s : up z + (down c + down d) ≡ down z + (up c + up d) = omega (arith, ints) in
    let t : (up z + (down c + down d)) * k ≡ (down z + (up c + up d)) * k = ap (λ n. n * k) s in
    omega (arith, ints, t)

added : (x y v w c d : ℤ) (k : ℕ) → x ≡ v +ℤ (c *ℤ pos k) → y ≡ w +ℤ (d *ℤ pos k) → x +ℤ y ≡ (v +ℤ w) +ℤ ((c +ℤ d) *ℤ pos k)
added x y v w c d k e f = omega (arith, ints, plus_times c d k)

pub net_more : (r : Rule) (rs : List Rule) (g : ℕ) → net (r ∷ rs) g ≡ share r g +ℤ net rs g
unfolding all_plus all_minus
net_more r rs g = omega (arith, ints)

-- the breakpoints of a rule, and those of the rules after it
two : (from to a b : ℕ) (xs : List ℕ) → clear (a ∷ (b ∷ xs)) from to ≡ true → (clear (a ∷ (b ∷ [])) from to ≡ true) × (clear xs from to ≡ true)
unfolding clear
two from to a b xs c =
    let p = and_parts (leb a from || leb to a) _ c in
    let q = and_parts (leb b from || leb to b) _ p.1 in
    (and_from _ _ p.0 (and_from _ _ q.0 refl), q.1)

apart : (r : Rule) (xs : List ℕ) (from to : ℕ) → clear (breaks r xs) from to ≡ true → (clear (breaks r []) from to ≡ true) × (clear xs from to ≡ true)
unfolding clear
apart (takes a b r) xs from to c = two from to a b xs c
apart (gives a b r) xs from to c = two from to a b xs c
apart (takes_sum a b s) xs from to c = two from to a b xs c
apart (gives_sum a b s) xs from to c = two from to a b xs c
apart (fades a zero s) xs from to c = let p = and_parts (leb a from || leb to a) _ c in (and_from _ _ p.0 refl, p.1)
apart (fades a (suc r) s) xs from to c = two from to a _ xs c

pub net_straight : (rs : List Rule) (from to : ℕ) → clear (breakpoints rs) from to ≡ true → Straight (net rs) from to (net rs from) (slope rs from)
unfolding breakpoints slope all_plus all_minus
net_straight [] from to c g lo hi = omega (arith, ints)
net_straight (r ∷ rs) from to c g lo hi =
    let p = apart r (breakpoints rs) from to c in
    let i = share_straight r from to p.0 g lo hi in
    let j = net_straight rs from to p.1 g lo hi in
    rw (net_more r rs g, net_more r rs from) (added _ _ (share r from) (net rs from) (slope_by r from) (slope rs from) (g - from) i j)

pub breaks_by_borders : (rs : List Rule) → SameOrPast (breakpoints rs) (borders rs)
unfolding breakpoints borders SameOrPast
breaks_by_borders [] = (inl refl, tt)
breaks_by_borders (takes a b r ∷ rs) = (inl refl, (inl refl, breaks_by_borders rs))
breaks_by_borders (gives a b r ∷ rs) = (inl refl, (inl refl, breaks_by_borders rs))
breaks_by_borders (takes_sum a b s ∷ rs) = (inl refl, (inl refl, breaks_by_borders rs))
breaks_by_borders (gives_sum a b s ∷ rs) = (inl refl, (inl refl, breaks_by_borders rs))
breaks_by_borders (fades a zero s ∷ rs) = (inl refl, breaks_by_borders rs)
breaks_by_borders (fades a (suc r) s ∷ rs) = (inl refl, (inr refl, breaks_by_borders rs))
