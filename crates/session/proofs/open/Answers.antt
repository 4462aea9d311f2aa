use Rattle.std.proofs.Common.{◌≡◌, subst, arith}
use Rattle.std.proofs.lemmas.Bool.Decides.{nat_tests}
use Rattle.raise.specs.Calls.{Answer, number}
use Rattle.session.specs.Memory.{limited, opening, open_words, Opened}
use Rattle.session.proofs.Runs.{opened}
use Rattle.session.proofs.open.Goals as goal

pub returns-clause-opened : goal.returns-clause-opened
returns-clause-opened c =
    let ws = c.args.words.now in
    let l = limited c.args.rules c.args.bound in
    let said : opening ws l ≡ number 0 = grind (arith, nat_tests) in
    let words : open_words ws l ≡ c.open_empty.new.words = grind (arith, nat_tests) in
    let P : Answer → Type 0 = λ a. Opened l a ws (open_words ws l) in
    rw words at (subst P said (opened ws c.args.rules c.args.bound))
