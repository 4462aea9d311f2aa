use Rattle.std.proofs.Common.{sym, ap, ◌∙◌, rules}
use Rattle.raise.specs.Told.{gross_told}
use Rattle.reference.proofs.Rows.{next_above, row_is}
use Rattle.reference.proofs.row_from.Goals as goal

pub map_or-last-requires : goal.map_or-last-requires
map_or-last-requires c = λ x e.
    let lt = next_above _ _ _ _ c.in_ok-first.ensures x (sym (ap gross_told e) ∙ c.first_not.ensures) in
    search (rules, lt)

pub returns : goal.returns
returns c = row_is _ _ _ _ c.in_ok-first.ensures _ _ c.first_not.ensures (search (rules, c.bound.ensures.value))
