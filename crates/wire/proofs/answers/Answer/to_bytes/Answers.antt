use Rattle.std.proofs.Common.{◌≡◌, ℕ, ◌<◌, [], get_or, w64, rules, ap, ◌∙◌, arith}
use Rattle.std.specs.Int.{to_le_bytes}
use Rattle.std.specs.List.{flat_map}
use Rattle.wire.specs.Fields.{bytes_of}
use Rattle.wire.proofs.Wide.{all_written, eight_written}
use Rattle.wire.proofs.answers.Answer.to_bytes.Goals as goal

pub returns : goal.returns
returns c =
    let ns = c.numbers.result in
    let ws = c.map.result in
    let each : (i : ℕ) → i < 3 → get_or ws i [] ≡ to_le_bytes w64 (get_or ns i 0) = λ i l. search (rules, (c.map.ensures.items.at i 0 [] l).2) in
    c.copy_from_slice.ensures.after ∙ c.as_flattened.ensures.value ∙ all_written (to_le_bytes w64) (bytes_of 8) eight_written ns ws (omega arith) (λ i l. each i (omega arith)) ∙ ap (flat_map (bytes_of 8)) c.numbers.ensures
