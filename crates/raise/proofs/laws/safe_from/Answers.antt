use Rattle.raise.proofs.Search.{safe_told, safe_from_right, one_safe}
use Rattle.raise.proofs.laws.safe_from.Goals as goal

pub returns : goal.returns
returns c = record { stated = safe_from_right; told = safe_told; only = one_safe }
