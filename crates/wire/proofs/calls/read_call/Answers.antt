use Rattle.wire.proofs.CallLaws as laws
use Rattle.wire.proofs.calls.read_call.Goals as goal

pub returns : goal.returns
returns c = record { call = c.parse.ensures; back = laws.calls_read_back; differ = laws.calls_differ; only = laws.only_calls_read; place = laws.place_right }
