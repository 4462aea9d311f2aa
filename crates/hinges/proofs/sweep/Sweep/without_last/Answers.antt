use Rattle.std.proofs.Common.{◌≡◌, suc, rules, arith}
use Rattle.hinges.proofs.Down.{room_at, fewer, all_less, nth_undone, nth_stays}
use Rattle.hinges.proofs.sweep.Sweep.without_last.Goals as goal

pub returns-then-hinge-gross : goal.returns-then-hinge-gross
returns-then-hinge-gross c =
    let e : suc c.in_ok-i.i ≡ c.args.self.many = search rules in record {
      undone = nth_stays _ _ _ _ _ e c.if-hinge-gross.true;
      fewer = all_less c.requires.undone c.requires.ordered c.in_ok-i.i _ e c.if-hinge-gross.true;
    }

pub without-requires-clause-room : goal.without-requires-clause-room
without-requires-clause-room c = room_at c.requires.undone c.requires.sized c.requires.low

pub returns : goal.returns
returns c =
    let e : suc c.in_ok-i.i ≡ c.args.self.many = search rules in
    let f = fewer c.requires.undone c.in_ok-i.i _ e c.if-hinge-gross.false in
    rw c.without.ensures (record { undone = nth_undone _ _ _ _ _ e c.if-hinge-gross.false; fewer = (f.0, omega (arith, e)) })
