-- The order of the rules is nothing to what is left.
use Rattle.std.proofs.Common.{[], ◌∷◌, arith}
use Rattle.raise.specs.Rules.{all_plus, all_minus}
use Rattle.raise.specs.Promise.{AnyOrder}

pub any_order : AnyOrder
unfolding all_plus all_minus
any_order [] ss r q g = (omega arith, omega arith)
any_order (x ∷ rs) ss r q g =
    let i = any_order rs ss r q g in
    (omega (arith, i.0), omega (arith, i.1))
