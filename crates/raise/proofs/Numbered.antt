-- A rule is lifted by its number, and no other is.
use Rattle.std.proofs.Common.{◌≡◌, ℕ, suc, List, [], ◌∷◌, ◌++◌, length, take, drop, refl, ap, sym, append_assoc}
use Rattle.raise.specs.Rules.{Rule}
use Rattle.raise.specs.Calls.{Answer, refused, number, two, Limits, lays, lifts, changed, told}

without : (rs ss : List Rule) (r : Rule) → take (length rs) (rs ++ (r ∷ ss)) ++ drop (suc (length rs)) (rs ++ (r ∷ ss)) ≡ rs ++ ss
without [] ss r = refl
without (q ∷ rs) ss r = ap (λ qs. q ∷ qs) (without rs ss r)

pub lifted : (rs ss : List Rule) (r : Rule) → changed (rs ++ (r ∷ ss)) (lifts (length rs)) ≡ rs ++ ss
unfolding changed
lifted rs ss r = without rs ss r

-- the number that an answer of one number tells
abbrev number_told : Answer → ℕ
number_told (refused k n) = 0
number_told (number n) = n
number_told (two m n) = 0

by_number : (rs ss : List Rule) (r : Rule) (n : ℕ) → length rs ≡ n → take n ((rs ++ (r ∷ [])) ++ ss) ++ drop (suc n) ((rs ++ (r ∷ [])) ++ ss) ≡ rs ++ ss
by_number rs ss r n e = rw (sym e, append_assoc rs (r ∷ []) ss) (without rs ss r)

pub lifted_again : (l : Limits) (rs ss : List Rule) (r : Rule) (n : ℕ) → told l rs (lays r) ≡ number n → changed (changed rs (lays r) ++ ss) (lifts n) ≡ rs ++ ss
unfolding changed told
lifted_again l rs ss r n e = by_number rs ss r n (ap number_told e)
