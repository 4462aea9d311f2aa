-- Which rules hold, as bits of a number, and the slope by them. Definitions only: nothing is assumed.
use Rattle.std.specs.Prelude.{◌≡◌, ℕ, suc, ◌/◌, ◌%◌, ◌^◌, Bool, false, List, [], ◌∷◌, map, ℤ, pos, ◌+ℤ◌, ◌==◌, slice_index_or}
use Rattle.raise.specs.Rules.{pick, Rule}
use Rattle.raise.specs.Net.{holds, pace}

-- is the i-th bit of m set
abbrev pub marked : ℕ → ℕ → Bool
marked m i = m / 2 ^ i % 2 == 1

-- does the i-th rule hold at g; no rule, no
abbrev pub nth_holds : List Rule → ℕ → ℕ → Bool
nth_holds rs g i = slice_index_or (map (λ r. holds r g) rs) i false

-- the i-th bit is set just if there is an i-th rule and it holds at g
abbrev pub Holding : List Rule → ℕ → ℕ → Type 0
Holding rs g m = (i : ℕ) → marked m i ≡ nth_holds rs g i

-- by how much net rises for each unit if just the rules hold whose place passes the test
unfoldable pub slope_on : (ℕ → Bool) → List Rule → ℤ
slope_on test [] = pos 10000
slope_on test (r ∷ rs) = pick (test 0) (pace r) (pos 0) +ℤ slope_on (λ i. test (suc i)) rs
