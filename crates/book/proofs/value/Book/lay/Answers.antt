use Rattle.std.proofs.Common.{◌≡◌, true, Some, sym, ap, arith}
use Rattle.std.proofs.lemmas.Bool.{lt-ltb}
use Rattle.raise.specs.Calls.{changed}
use Rattle.book.specs.Held.{has_room}
use Rattle.book.specs.Value.{stands_for}
use Rattle.book.proofs.Fields.{counted, laid, laid_kept}
use Rattle.book.proofs.value.Book.lay.Goals as goal

pub invariant_of-self : goal.invariant_of-self
invariant_of-self c = laid_kept c.self.inside c.args.rule c.self.invariant (omega arith) c.requires

pub returns-clause-number : goal.returns-clause-number
returns-clause-number c =
    let n = counted c.self.inside c.self.invariant in
    let t : has_room (stands_for c.self.inside) ≡ true = lt-ltb _ _ (omega (arith, n.2)) in
    rw (← c.self.view_is, t) (ap Some (sym n.2))

pub returns-clause-book : goal.returns-clause-book
unfolding changed
returns-clause-book c =
    let n = counted c.self.inside c.self.invariant in
    let t : has_room (stands_for c.self.inside) ≡ true = lt-ltb _ _ (omega (arith, n.2)) in
    rw (← c.self.view_is, t) (laid c.self.inside c.args.rule c.self.invariant (omega arith))
