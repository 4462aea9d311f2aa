use Rattle.std.proofs.Common.{◌≡◌, ℕ, ◌/◌, ◌%◌, List, [], length, get_or, take, w64, ap, ◌∙◌, arith}
use Rattle.std.specs.Int.{from_le_bytes}
use Rattle.std.specs.Simd.{first_chunks}
use Rattle.std.proofs.lemmas.List.{drop-drop}
use Rattle.std.proofs.lemmas.Bool.Decides.{nat_tests}
use Rattle.wire.proofs.Wide.{eight_at}
use Rattle.wire.proofs.answers.three_numbers.Goals as goal

pub returns : goal.returns
returns c =
    let bs = c.args.bytes.now in
    let e : length c.as_chunks.result.0.now ≡ length bs / 8 = c.as_chunks.ensures.front_len in
    let d : length c.as_chunks.result.1.now ≡ length bs % 8 = c.as_chunks.ensures.back_len in
    let l : length bs ≡ 24 = grind (arith, nat_tests) in
    let k : length bs / 8 ≡ 3 = omega arith in
    let f = c.as_chunks.ensures.front ∙ ap (λ (n : ℕ). first_chunks 8 n bs) k in
    let at = λ (i : ℕ). ap (λ (ws : List (List ℕ)). from_le_bytes w64 (get_or ws i [])) f in
    let x = c.from_le_bytes.ensures ∙ at 0 ∙ eight_at bs 0 (omega arith) in
    let y = c.from_le_bytes-2.ensures ∙ at 1 ∙ eight_at bs 8 (omega arith) in
    let z = c.from_le_bytes-3.ensures ∙ at 2 ∙ ap (λ (ds : List ℕ). from_le_bytes w64 (take 8 ds)) (drop-drop 8 8 bs) ∙ eight_at bs 16 (omega arith) in
    (l, rw (x, y, z))
