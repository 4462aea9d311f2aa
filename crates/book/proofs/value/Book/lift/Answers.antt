use Rattle.std.proofs.Common.{◌≡◌, true, arith}
use Rattle.std.proofs.lemmas.Bool.{lt-ltb}
use Rattle.raise.specs.Calls.{changed}
use Rattle.book.specs.Held.{has_rule}
use Rattle.book.specs.Value.{stands_for}
use Rattle.book.proofs.Fields.{counted, pulled, lifted, lifted_kept}
use Rattle.book.proofs.value.Book.lift.Goals as goal

pub invariant_of-self : goal.invariant_of-self
invariant_of-self c =
    let b = c.self.inside in
    let k = c.self.invariant in
    lifted_kept b c.args.i _ k c.if-place-self.false (pulled b.rules c.rotate_left.new.self b.count c.args.i k.first (omega (arith, (counted b k).1, k.good.few)) c.if-place-self.false c.rotate_left.ensures.after)

pub returns-clause-book : goal.returns-clause-book
unfolding changed
returns-clause-book c =
    let b = c.self.inside in
    let k = c.self.invariant in
    let t : has_rule (stands_for b) c.args.i ≡ true = lt-ltb _ _ (omega (arith, (counted b k).2)) in
    rw (← c.self.view_is, t)
    (lifted b c.args.i _ k c.if-place-self.false (pulled b.rules c.rotate_left.new.self b.count c.args.i k.first (omega (arith, (counted b k).1, k.good.few)) c.if-place-self.false c.rotate_left.ensures.after))
