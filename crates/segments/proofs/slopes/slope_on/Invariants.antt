use Rattle.std.proofs.Common.{◌≡◌, take}
use Rattle.book.specs.Meant.{all_meant}
use Rattle.segments.specs.Bits.{marked, slope_on}
use Rattle.segments.proofs.slopes.slope_on.Given as goal

abbrev pub invariant-loop-i : goal.invariant-loop-i
invariant-loop-i l = l.slope ≡ slope_on (marked l.holding) (all_meant (take l.i l.rules))
