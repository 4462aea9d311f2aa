use Rattle.std.proofs.Common.{◌≡◌, drop, w32, ap, ◌∙◌, arith}
use Rattle.std.specs.Int.{from_le_bytes}
use Rattle.std.proofs.lemmas.List.{take_min, drop_min}
use Rattle.wire.specs.Fields.{number_at}
use Rattle.wire.proofs.Wide.{four_at}
use Rattle.wire.proofs.files.next_call.Goals as goal

pub returns-clause-first : goal.returns-clause-first
returns-clause-first c =
    let bs = c.args.rest.now in
    let parts = c.in-Some.ensures.cases in
    let n : c.from_le_bytes-length.result ≡ number_at 4 bs 0 = c.from_le_bytes-length.ensures ∙ ap (from_le_bytes w32) parts.0 ∙ four_at bs 0 (omega arith) in
    let body : c.in-Some.body.now ≡ drop 4 bs = parts.1 in
    let t = take_min (number_at 4 bs 0) (drop 4 bs) in
    let d = drop_min (number_at 4 bs 0) (drop 4 bs) in
    (omega arith, (cc), (cc))
