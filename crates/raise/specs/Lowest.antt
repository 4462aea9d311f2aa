-- The least net that is left of any of some earnings, and who loses by it. Definitions only: nothing is assumed.
use Rattle.std.specs.Prelude.{◌≡◌, ℕ, zero, suc, ◌-◌, ◌<◌, ◌≤◌, Bool, false, ◌&&◌, ◌||◌, List, ℤ, pos, ◌≤ℤ◌, Some, None, Option, nat_lt, int_lt}
use Rattle.std.specs.Int.{int_min}
use Rattle.raise.specs.Rules.{Rule}
use Rattle.raise.specs.Net.{net, on_line, Straight}

-- ---- the least

-- the lesser of x and m, if there is one
abbrev pub lesser_of : ℤ → Option ℤ → ℤ
lesser_of x None = x
lesser_of x (Some m) = int_min x m

-- the least of f over n earnings from x on; none where there are none
unfoldable pub least_over : (ℕ → ℤ) → ℕ → ℕ → Option ℤ
least_over f zero x = None
least_over f (suc n) x = Some (lesser_of (f x) (least_over f n (suc x)))

-- the least net of all earnings from x on, up to b; none where x is above b
abbrev pub lowest_from : List Rule → ℕ → ℕ → Option ℤ
lowest_from rs b x = least_over (net rs) (suc b - x) x

-- what that says: m is no more than f anywhere from x on, before e, and f is m somewhere there; no m, and nothing is there
abbrev pub Lowest : (ℕ → ℤ) → ℕ → ℕ → Option ℤ → Type 0
Lowest f x e None = e ≤ x
Lowest f x e (Some m) = ((h : ℕ) → x ≤ h → h < e → m ≤ℤ f h) × ((h : ℕ) × (x ≤ h) × (h < e) × (f h ≡ m))

-- ---- the least of a line, and of what lies beyond it

-- [from, to) is a stretch of earnings up to b, not empty, on which net is the line that is v at `from` and rises by d a unit
pub record NetLine (rs : List Rule) (b from to : ℕ) (v d : ℤ) : Type 0 where
  pub some : from < to
  pub within : to ≤ suc b
  pub straight : Straight (net rs) from to v d

-- a line is least at one of its ends; what lies beyond may have less, its lowest being m
abbrev pub lowest_with : ℕ → ℕ → ℤ → ℤ → Option ℤ → ℤ
lowest_with from to v d m = lesser_of (int_min v (on_line from v d (to - 1))) m

-- ---- who loses

-- is there an m, and is it less than x
abbrev pub lower_than : Option ℤ → ℤ → Bool
lower_than None x = false
lower_than (Some m) x = int_lt m x

-- does g on such a line lose: by the next unit, if the line falls and g is not its last, or by what lies beyond
abbrev pub loses_at : ℕ → ℕ → ℤ → ℤ → Option ℤ → ℕ → Bool
loses_at from to v d m g = (int_lt d (pos 0) && nat_lt (suc g) to) || lower_than m (on_line from v d g)
