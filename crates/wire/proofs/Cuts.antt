-- What follows a call is shorter.
use Rattle.std.proofs.Common.{ℕ, ◌<◌, List, length, drop, arith}
use Rattle.std.proofs.lemmas.List.{length-drop}
use Rattle.wire.specs.Files.{after_call}
use Rattle.wire.specs.Fields.{number_at}

pub after_shorter : (bs : List ℕ) → 0 < length bs → length (after_call bs) < length bs
after_shorter bs h = omega (arith, length-drop (number_at 4 bs 0) (drop 4 bs), length-drop 4 bs)
