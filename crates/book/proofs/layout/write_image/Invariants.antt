use Rattle.std.proofs.Common.{◌≡◌, ◌+◌, ◌*◌, ◌++◌, length, take, drop}
use Rattle.std.specs.List.{flat_map}
use Rattle.book.specs.Held.{head_words, slot, width}
use Rattle.book.specs.Meant.{all_meant}
use Rattle.book.proofs.layout.write_image.Given as goal

abbrev pub invariant-loop-i : goal.invariant-loop-i
invariant-loop-i l =
    l.words ≡ (head_words l.fn.limit l.fn.bound (length l.rules) ++ flat_map slot (all_meant (take l.i l.rules))) ++ drop (4 + width * l.i) l.initial.words
