use Rattle.std.proofs.Common.{refl}
use Rattle.raise.proofs.Trial.{only_row, computed}
use Rattle.raise.proofs.worked.taxed_fade.Goals as goal

pub returns : goal.returns
unfolding computed
returns c = only_row _ _ _ refl
