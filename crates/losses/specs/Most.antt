-- The most that is lost in a row of earnings: how it is found by trying, and what it says. Definitions only: nothing is assumed.
use Rattle.std.specs.Prelude.{◌≡◌, ℕ, zero, suc, ◌+◌, ◌-◌, ◌<◌, ◌≤◌, false, List, ℤ, pos, ◌-ℤ◌, ◌≤ℤ◌, Some, None, Option, nat_le, unsigned_abs}
use Rattle.std.specs.Int.{int_max, int_min}
use Rattle.raise.specs.declared.LosingRow.{LosingRow}
use Rattle.raise.specs.Rules.{pick, lesser, Rule, all_plus, all_minus, loses}
use Rattle.raise.specs.Net.{net, on_line}
use Rattle.raise.specs.Lowest.{lesser_of, lowest_from}
use Rattle.raise.specs.Rows.{greater}
use Rattle.lowest.specs.declared.entries.Entry.{Entry}

-- ---- by trying

-- by how much less is left of h than of g, in ten-thousandths; 0 where it isn't less
abbrev pub shortfall : List Rule → ℕ → ℕ → ℕ
shortfall rs g h = (all_plus rs g + all_minus rs h) - (all_plus rs h + all_minus rs g)

-- the greatest of f over n earnings from x on; 0 where there are none
unfoldable pub greatest_over : (ℕ → ℕ) → ℕ → ℕ → ℕ
greatest_over f zero x = 0
greatest_over f (suc n) x = greater (f x) (greatest_over f n (suc x))

-- the most that somebody who earns g loses by earning more, up to b
abbrev pub loss : List Rule → ℕ → ℕ → ℕ
loss rs b g = greatest_over (shortfall rs g) (b - g) (suc g)

-- the most that anybody in a row does; 0 where nobody in it loses, and where it is empty
unfoldable pub most_lost : List Rule → ℕ → LosingRow → ℕ
most_lost rs b r = greatest_over (loss rs b) (suc r.last - r.first) r.first

-- ---- what that says

-- n is the most by which f of an earning from x on, before e, is above f of a larger one, up to b: it is never above by more, and
-- somewhere by just that, unless that is 0
pub record MostOver (f : ℕ → ℤ) (b x e n : ℕ) : Type 0 where
  pub bounds : (g h : ℕ) → x ≤ g → g < e → g < h → h ≤ b → (f g -ℤ f h) ≤ℤ pos n
  pub reached : 0 < n → (g : ℕ) × (h : ℕ) × (x ≤ g) × (g < e) × (g < h) × (h ≤ b) × ((f g -ℤ f h) ≡ pos n)

-- nobody in the row loses more than n, and somebody just that, unless it is 0
abbrev pub MostLost : List Rule → ℕ → LosingRow → ℕ → Type 0
MostLost rs b r n = MostOver (net rs) b r.first (suc r.last) n

-- nobody in the row loses
abbrev pub NobodyIn : List Rule → ℕ → LosingRow → Type 0
NobodyIn rs b r = (g : ℕ) → r.first ≤ g → g ≤ r.last → loses rs b g ≡ false

-- by how much x is above the lowest, if there is one, and it is below x
abbrev pub above_lowest : ℤ → Option ℤ → ℤ
above_lowest x None = pos 0
above_lowest x (Some m) = int_max (x -ℤ m) (pos 0)

-- the most that somebody who earns g loses is net of g less the lowest net of all larger earnings, if that is more than 0
abbrev pub LossByLowest : List Rule → ℕ → Type 0
LossByLowest rs b = (g : ℕ) → pos (loss rs b g) ≡ above_lowest (net rs g) (lowest_from rs b (suc g))

-- ---- on a segment

-- what of a row lies on [from, to), if anything does
abbrev pub part_on : LosingRow → ℕ → ℕ → Option LosingRow
part_on r from to =
    pick (nat_le (greater from r.first) (lesser (to - 1) r.last)) (Some (record { first = greater from r.first; last = lesser (to - 1) r.last })) None

-- net on an entry's segment
abbrev pub net_on : Entry → ℕ → ℤ
net_on e g = on_line e.segment.from e.segment.net e.segment.slope g

-- the least of a net, of that of the segment's last, and of what lies beyond
abbrev pub least_with : Entry → ℤ → ℤ
least_with e v = lesser_of (int_min v (net_on e (e.segment.to - 1))) e.lowest_above

-- by how much the least with that of y is below the greater of those of x and y
abbrev pub fall_on : Entry → ℕ → ℕ → ℕ
fall_on e x y = unsigned_abs (int_max (net_on e x) (net_on e y) -ℤ least_with e (net_on e y))
