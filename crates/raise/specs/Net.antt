-- What is left as a signed number, and where it goes in a straight line. Definitions only: nothing is assumed.
--
-- A stretch [from, to) is the earnings from `from` on, before `to`. On a stretch that has no breakpoint strictly inside, what
-- is left goes in one straight line, so that its value at the beginning and its slope say all of it.
use Rattle.std.specs.Prelude.{◌≡◌, ℕ, zero, suc, ◌+◌, ◌-◌, ◌*◌, ◌/◌, ◌<◌, ◌≤◌, Bool, true, false, ◌&&◌, ◌||◌, ◌⊎◌, List, [], ◌∷◌, ℤ, pos, ◌+ℤ◌, ◌-ℤ◌, ◌*ℤ◌, neg_ℤ, ◌==◌, nat_le, nat_lt}
use Rattle.raise.specs.Rules.{pick, Rule, takes, gives, takes_sum, gives_sum, fades, plus, minus, all_plus, all_minus}

-- what is left of g: what comes in less what goes out
abbrev pub net : List Rule → ℕ → ℤ
net rs g = pos (all_plus rs g) -ℤ pos (all_minus rs g)

-- a rule's share of it
abbrev pub share : Rule → ℕ → ℤ
share r g = pos (plus r g) -ℤ pos (minus r g)

-- ---- straight stretches

-- at g, the line that is v at `from` and rises by d for each unit
abbrev pub on_line : ℕ → ℤ → ℤ → ℕ → ℤ
on_line from v d g = v +ℤ (d *ℤ pos (g - from))

-- on [from, to) f is that line
abbrev pub Straight : (ℕ → ℤ) → ℕ → ℕ → ℤ → ℤ → Type 0
Straight f from to v d = (g : ℕ) → from ≤ g → g < to → f g ≡ on_line from v d g

-- ---- breakpoints

-- the breakpoints of a rule, put before others: where its rate or its sum begins and ends; of a fade, its border and one past
-- the last unit at which something may be left of it (a rate of 0 never uses it up)
abbrev pub breaks : Rule → List ℕ → List ℕ
breaks (takes a b r) xs = a ∷ (b ∷ xs)
breaks (gives a b r) xs = a ∷ (b ∷ xs)
breaks (takes_sum a b s) xs = a ∷ (b ∷ xs)
breaks (gives_sum a b s) xs = a ∷ (b ∷ xs)
breaks (fades a zero s) xs = a ∷ xs
breaks (fades a (suc r) s) xs = a ∷ (suc (a + 10000 * s / suc r) ∷ xs)

-- those of all rules, and 0
unfoldable pub breakpoints : List Rule → List ℕ
breakpoints [] = 0 ∷ []
breakpoints (r ∷ rs) = breaks r (breakpoints rs)

-- is none of them strictly inside [from, to)
unfoldable pub clear : List ℕ → ℕ → ℕ → Bool
clear [] from to = true
clear (x ∷ xs) from to = (nat_le x from || nat_le to x) && clear xs from to

-- is x one of them
unfoldable pub among : List ℕ → ℕ → Bool
among [] x = false
among (y ∷ ys) x = y == x || among ys x

-- one by one, each of the first list is the one of the second in its place, or one past it. So are breakpoints to borders: a
-- fade's last border is the last unit at which something may be left of it, and the breakpoint one past it begins another line
unfoldable pub SameOrPast : List ℕ → List ℕ → Type 0
SameOrPast [] [] = Unit {0}
SameOrPast [] (y ∷ ys) = ⊥
SameOrPast (x ∷ xs) [] = ⊥
SameOrPast (x ∷ xs) (y ∷ ys) = ((x ≡ y) ⊎ (x ≡ suc y)) × SameOrPast xs ys

-- ---- slopes

-- does a rule hold at g: a rate or a sum between its borders, a fade from its border to its last unit
abbrev pub holds : Rule → ℕ → Bool
holds (takes a b r) g = nat_le a g && nat_lt g b
holds (gives a b r) g = nat_le a g && nat_lt g b
holds (takes_sum a b s) g = nat_le a g && nat_lt g b
holds (gives_sum a b s) g = nat_le a g && nat_lt g b
holds (fades a zero s) g = nat_le a g
holds (fades a (suc r) s) g = nat_le a g && nat_le g (a + 10000 * s / suc r)

-- by how much its share rises for each unit where it holds
abbrev pub pace : Rule → ℤ
pace (takes a b r) = neg_ℤ (pos r)
pace (gives a b r) = pos r
pace (takes_sum a b s) = pos 0
pace (gives_sum a b s) = pos 0
pace (fades a r s) = neg_ℤ (pos r)

abbrev pub slope_by : Rule → ℕ → ℤ
slope_by r g = pick (holds r g) (pace r) (pos 0)

-- by how much net rises for each unit from g on, up to the next breakpoint: the unit itself, and what the rules that hold do
unfoldable pub slope : List Rule → ℕ → ℤ
slope [] g = pos 10000
slope (r ∷ rs) g = slope_by r g +ℤ slope rs g
