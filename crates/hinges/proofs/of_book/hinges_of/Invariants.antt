use Rattle.std.proofs.Common.{◌≡◌, ◌≤◌, ◌+◌, ◌*◌, length, take}
use Rattle.book.specs.Meant.{all_meant}
use Rattle.hinges.specs.Hinges.{hinges}
use Rattle.hinges.proofs.of_book.hinges_of.Given as goal

abbrev pub invariant-loop-rule : goal.invariant-loop-rule
invariant-loop-rule l = (l.hinges.items ≡ hinges (all_meant (take l.rule-index l.rule-items))) × (length l.hinges.items ≤ 3 * l.rule-index + 1)
