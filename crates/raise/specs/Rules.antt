-- Rules, what they leave of an earning, and who loses by earning more. Definitions only: nothing is assumed.
--
-- What is earned (gross) is a whole number of units, from 0 to a bound. Every amount is in ten-thousandths of a unit.
-- What comes in is the gross itself and all that rules give; what goes out is all that rules take; what is left (net) is
-- the first less the second, and may be below nothing. So that natural numbers suffice, the two are kept apart here.
-- As the field calls it: a fade is a taper; what goes of one unit more, 10,000 less the slope (Net.antt), is the effective marginal
-- rate; the smallest larger earning that is safe is the break-even; and a row ends at a cliff.
use Rattle.std.specs.Prelude.{ℕ, zero, suc, ◌+◌, ◌-◌, ◌*◌, Bool, true, false, not, ◌&&◌, ◌||◌, List, [], ◌∷◌, nat_le, nat_lt}

abbrev pub pick : {A : Type 0} → Bool → A → A → A
pick true a b = a
pick false a b = b

-- ---- rules

-- takes, gives: a rate, in ten-thousandths of each unit that is earned above `from`, up to `to`
-- takes_sum, gives_sum: a sum, in units, where what is earned is `from` or more and below `to`
-- fades: a sum, in units, less a rate for each unit that is earned above a border; nothing where that would be below nothing
pub data Rule : Type 0 where
  takes : ℕ → ℕ → ℕ → Rule  -- from, to, rate
  gives : ℕ → ℕ → ℕ → Rule  -- from, to, rate
  takes_sum : ℕ → ℕ → ℕ → Rule  -- from, to, sum
  gives_sum : ℕ → ℕ → ℕ → Rule  -- from, to, sum
  fades : ℕ → ℕ → ℕ → Rule  -- border, rate, sum

abbrev pub lesser : ℕ → ℕ → ℕ
lesser a b = pick (nat_le a b) a b

-- what a rule gives to who earns g
unfoldable pub plus : Rule → ℕ → ℕ
plus (takes a b r) g = 0
plus (gives a b r) g = r * (lesser g b - a)
plus (takes_sum a b s) g = 0
plus (gives_sum a b s) g = pick (nat_le a g && nat_lt g b) (10000 * s) 0
plus (fades a r s) g = 10000 * s - r * (g - a)

-- what a rule takes from who earns g
unfoldable pub minus : Rule → ℕ → ℕ
minus (takes a b r) g = r * (lesser g b - a)
minus (gives a b r) g = 0
minus (takes_sum a b s) g = pick (nat_le a g && nat_lt g b) (10000 * s) 0
minus (gives_sum a b s) g = 0
minus (fades a r s) g = 0

-- ---- all rules together

-- what comes in: the gross, and all that is given
unfoldable pub all_plus : List Rule → ℕ → ℕ
all_plus [] g = 10000 * g
all_plus (r ∷ rs) g = plus r g + all_plus rs g

-- what goes out
unfoldable pub all_minus : List Rule → ℕ → ℕ
all_minus [] g = 0
all_minus (r ∷ rs) g = minus r g + all_minus rs g

-- is less left of h than of g
abbrev pub less_left : List Rule → ℕ → ℕ → Bool
less_left rs g h = nat_lt (all_plus rs h + all_minus rs g) (all_plus rs g + all_minus rs h)

-- ---- who loses by earning more

-- is less left than of g of one of the n earnings from h on
unfoldable pub some_less : List Rule → ℕ → ℕ → ℕ → Bool
some_less rs g zero h = false
some_less rs g (suc n) h = less_left rs g h || some_less rs g n (suc h)

-- who earns g loses by earning more, up to b: there is a larger earning, up to b, of which less is left
abbrev pub loses : List Rule → ℕ → ℕ → Bool
loses rs b g = some_less rs g (b - g) (suc g)

-- the first of the n numbers from g on that passes the test f: one more than it, or 0 if none does
unfoldable pub first_that : (ℕ → Bool) → ℕ → ℕ → ℕ
first_that f zero g = 0
first_that f (suc n) g = pick (f g) (suc g) (first_that f n (suc g))

-- the first earning from g on, up to b, that loses, and the first that doesn't: one more, or 0
abbrev pub first_losing : List Rule → ℕ → ℕ → ℕ
first_losing rs b g = first_that (loses rs b) (suc b - g) g

abbrev pub first_not : List Rule → ℕ → ℕ → ℕ
first_not rs b g = first_that (λ h. not (loses rs b h)) (suc b - g) g

-- ---- from where on an earning is safe

-- is at least as much left as of g of each of the n earnings from h on
unfoldable pub all_as_much : List Rule → ℕ → ℕ → ℕ → Bool
all_as_much rs g zero h = true
all_as_much rs g (suc n) h = not (less_left rs g h) && all_as_much rs g n (suc h)

-- the smallest earning above g from which on, up to b, at least as much is left as of g: one more, or 0
abbrev pub safe_from : List Rule → ℕ → ℕ → ℕ
safe_from rs b g = first_that (λ h. nat_lt g h && all_as_much rs g (suc b - h) h) (suc b - g) g
