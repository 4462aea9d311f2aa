use Rattle.std.proofs.Common.{◌≡◌, length, take, drop, Some}
use Rattle.book.specs.Held.{rules_of, width}
use Rattle.book.specs.Meant.{all_meant}
use Rattle.book.specs.Fields.{AreFirst}
use Rattle.book.proofs.layout.read_rules.Given as goal

abbrev pub invariant-loop-i : goal.invariant-loop-i
invariant-loop-i l = (rules_of width (drop 4 l.words) l.i ≡ Some (all_meant (take l.i l.rules))) × (length l.rules ≡ 64) × AreFirst l.i l.rules
