-- Lines: what grows by a rate, a line that rises and a line that falls.
use Rattle.std.proofs.Common.{◌≡◌, ℕ, suc, ◌+◌, ◌-◌, ◌*◌, ◌≤◌, Bool, true, false, ℤ, pos, negsuc, ◌≤ℤ◌, arith}
use Rattle.std.proofs.lemmas.Nat.{mul-le}
use Rattle.std.proofs.lemmas.Int.{ints}
use Rattle.raise.specs.Rules.{pick}
use Rattle.raise.specs.Net.{on_line}

-- r times what grows by k where the test passes
pub scaled : (t : Bool) (r x y k : ℕ) → y ≡ x + pick t k 0 → r * y ≡ r * x + pick t r 0 * k
scaled true r x y k e = rw e (omega arith)
scaled false r x y k e = rw e (omega arith)

pub rises : (from g h : ℕ) (v : ℤ) (r : ℕ) → from ≤ g → g ≤ h → on_line from v (pos r) g ≤ℤ on_line from v (pos r) h
rises from g h v r lo le =
    let p : g - from ≤ h - from = omega arith in
    omega (arith, ints, mul-le r (g - from) r (h - from) (omega arith) p)

pub falls : (from g h : ℕ) (v : ℤ) (r : ℕ) → from ≤ g → g ≤ h → on_line from v (negsuc r) h ≤ℤ on_line from v (negsuc r) g
falls from g h v r lo le =
    let p : g - from ≤ h - from = omega arith in
    omega (arith, ints, mul-le (suc r) (g - from) (suc r) (h - from) (omega arith) p)
