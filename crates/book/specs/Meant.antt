-- What lists of the code's rules stand for, and the code's rules for these. Nothing is assumed.
use Rattle.std.specs.Prelude.{ℕ, List, map, take, Some, None, Option}
use Rattle.raise.specs.Rules as rules
use Rattle.raise.specs.Rules.{takes, gives, takes_sum, gives_sum, fades}
use Rattle.wire.specs.declared.calls.Rule.{Rule}
use Rattle.wire.specs.declared.calls.Rule.TheVariants.{Take, Give, TakeSum, GiveSum, Fade}
use Rattle.wire.specs.Meaning.{meant}

abbrev pub all_meant : List Rule → List rules.Rule
all_meant rs = map meant rs

abbrev pub meant_if : Option Rule → Option rules.Rule
meant_if None = None
meant_if (Some r) = Some (meant r)

-- the first n of what was read, if each slot held one
abbrev pub first_meant : ℕ → Option (List Rule) → Option (List rules.Rule)
first_meant n None = None
first_meant n (Some rs) = Some (all_meant (take n rs))

-- the code's rule that means this one
abbrev pub coded : rules.Rule → Rule
coded (takes a b r) = Take a b r
coded (gives a b r) = Give a b r
coded (takes_sum a b s) = TakeSum a b s
coded (gives_sum a b s) = GiveSum a b s
coded (fades a r s) = Fade a r s
