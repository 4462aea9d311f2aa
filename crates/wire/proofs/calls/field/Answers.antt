use Rattle.std.proofs.Common.{◌≡◌, ◌+◌, ◌≤◌, length, take, drop, w32, ap, ◌∙◌, arith}
use Rattle.std.specs.Int.{from_le_bytes}
use Rattle.std.proofs.lemmas.List.{take_rest}
use Rattle.std.proofs.lemmas.Bool.Decides.{nat_tests}
use Rattle.wire.specs.Fields.{number_at}
use Rattle.wire.proofs.Wide.{four_at}
use Rattle.wire.proofs.calls.field.Goals as goal

pub returns : goal.returns
returns c =
    let bs = c.args.bytes.now in
    let i = c.args.at in
    let rest = c.in_ok-get.ensures.lookup in
    let first = c.in_ok-four.ensures.cases in
    let e : c.in_ok-four.four.now ≡ take 4 (drop i bs) = first.same ∙ ap (take 4) (rest.0.2 ∙ take_rest bs i) in
    let enough : i + 4 ≤ length bs = omega arith in
    let n : c.from_le_bytes.result ≡ number_at 4 bs i = c.from_le_bytes.ensures ∙ ap (from_le_bytes w32) e ∙ four_at bs i enough in
    grind (arith, nat_tests)
