use Rattle.raise.proofs.Look.{seen_at, seen_near, where_to_look}
use Rattle.raise.proofs.laws.where_to_look.Goals as goal

pub returns : goal.returns
returns c = record { closest = seen_at; near = seen_near; stated = where_to_look }
