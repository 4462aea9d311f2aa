use Rattle.std.proofs.Common.{◌≡◌, w64, to_z, of_z, rules}
use Rattle.hinges.proofs.Down.{goes_back}
use Rattle.hinges.proofs.sweep.Sweep.back_to.Goals as goal

pub returns-clause-back : goal.returns-clause-back
returns-clause-back c =
    let n : to_z w64 (of_z w64 c.args.segment.net) ≡ c.args.segment.net = search rules in
    let d : to_z w64 (of_z w64 c.args.self.slope) ≡ c.args.self.slope = search rules in
    λ hs g o l e. rw (n, d) (goes_back o l c.args.segment e)
