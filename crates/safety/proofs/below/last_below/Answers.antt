use Rattle.std.proofs.Common.{◌≡◌, ◌<ℤ◌, w64, to_z, of_z, rules, arith}
use Rattle.safety.proofs.Last.{past_from, before_first}
use Rattle.safety.proofs.below.last_below.Goals as goal

pub overflow_sub-result : goal.overflow_sub-result
overflow_sub-result c =
    let b : c.args.segment.net <ℤ c.args.level = search rules in
    let u : to_z w64 (of_z w64 c.args.level) ≡ c.args.level = search rules in
    omega (arith, past_from c.args.segment c.args.level c.requires.some c.in_ok-first.first (rw u at c.in_ok-first.ensures) b)

pub returns : goal.returns
returns c =
    let b : c.args.segment.net <ℤ c.args.level = search rules in
    let u : to_z w64 (of_z w64 c.args.level) ≡ c.args.level = search rules in
    before_first c.args.segment c.args.level c.requires.some c.in_ok-first.first (rw u at c.in_ok-first.ensures) b
