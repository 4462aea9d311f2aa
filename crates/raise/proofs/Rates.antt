-- Rates and fades alone make nobody lose as long as together they take no more than all of a unit; one ten-thousandth more,
-- and somebody may.
use Rattle.std.proofs.Common.{◌≡◌, ℕ, zero, suc, ◌+◌, ◌-◌, ◌*◌, ◌<◌, ◌≤◌, true, ◌&&◌, ltb, leb, List, [], ◌∷◌, refl, arith}
use Rattle.std.proofs.lemmas.Bool.{both_ways}
use Rattle.raise.specs.Rules.{pick, lesser, Rule, takes, gives, takes_sum, gives_sum, fades, plus, minus, all_plus, all_minus, some_less, loses}
use Rattle.raise.specs.Promise.{rate_at, RatesAlone}
use Rattle.raise.specs.Laws.{JustWithin}
use Rattle.raise.proofs.Search.{nobody_loses}
use Rattle.raise.proofs.Lines.{scaled}

part_step : (a b r g : ℕ) → r * (lesser (suc g) b - a) ≡ r * (lesser g b - a) + pick (leb a g && ltb g b) r 0
part_step a b r g = omega (arith, scaled (leb a g && ltb g b) r (lesser g b - a) (lesser (suc g) b - a) 1 (grind arith))

fade_step : (a r g : ℕ) → r * (suc g - a) ≡ r * (g - a) + pick (leb a g) r 0
fade_step a r g = omega (arith, scaled (leb a g) r (g - a) (suc g - a) 1 (grind arith))

-- one more earned: at least what the rates leave of it is left
step : (rs : List Rule) (g : ℕ) → rate_at rs g ≤ 10000 → all_plus rs g + all_minus rs (suc g) + 10000 ≤ all_plus rs (suc g) + all_minus rs g + rate_at rs g
unfolding all_plus all_minus rate_at plus minus
step [] g le = omega arith
step (takes a b r ∷ rs) g le = omega (arith, step rs g (omega arith), part_step a b r g)
step (gives a b r ∷ rs) g le = omega (arith, step rs g (omega arith), part_step a b r g)
step (takes_sum a b s ∷ rs) g le = absurd (omega arith)
step (gives_sum a b s ∷ rs) g le = absurd (omega arith)
step (fades a r s ∷ rs) g le = omega (arith, step rs g (omega arith), fade_step a r g)

climb : (rs : List Rule) (b : ℕ) → ((g : ℕ) → g < b → rate_at rs g ≤ 10000) → (n g h : ℕ) → h ≡ g + n → h ≤ b → all_plus rs g + all_minus rs h ≤ all_plus rs h + all_minus rs g
climb rs b small zero g h e le = let s : h ≡ g = omega arith in rw s (omega arith)
climb rs b small (suc n) g h e le =
    let r : rate_at rs g ≤ 10000 = small g (omega arith) in
    omega (arith, climb rs b small n (suc g) h (omega arith) le, step rs g r)

pub rates_alone : RatesAlone
rates_alone rs b small = nobody_loses rs b (λ g h le. climb rs b small (h - g) g h (omega arith))

-- a tax of 10,001 on the first unit: who earns nothing loses by earning one
over : List Rule
over = takes 0 1 10001 ∷ []

over_takes : (g : ℕ) → g < 1 → rate_at over g ≤ 10001
unfolding over rate_at
over_takes zero lt = omega arith
over_takes (suc g) lt = absurd (omega arith)

over_loses : loses over 1 0 ≡ true
unfolding over some_less all_plus all_minus plus minus
over_loses = refl

pub just_within : JustWithin 10000
just_within = (
  rates_alone,
  λ more above within. both_ways (loses over 1 0) (within over 1 (λ g lt. omega (arith, over_takes g lt)) 0 (omega arith)) over_loses,
)
