use Rattle.std.proofs.Common.{◌∙◌}
use Rattle.wire.specs.declared.calls.Rule.TheVariants.{Take}
use Rattle.book.specs.Held.{Within}
use Rattle.book.specs.Meant.{all_meant}
use Rattle.segments.proofs.Paces.{sum_fits, added, not_added}
use Rattle.segments.proofs.slopes.slope_on.Goals as goal
use Rattle.segments.proofs.slopes.slope_on.Goals.{then-is_set, else-is_set}

pub overflow_add-slope : goal.overflow_add-slope
overflow_add-slope c =
    let w : Within (all_meant c.rules-rules.result.now) = rw c.rules-rules.ensures.rules c.rules-rules.ensures.within in
    sum_fits c.rules-rules.result.now w c.args.holding c.loop-i.i _ c.loop-i-test.true _ c.pace_of-slope.result c.loop-i.invariant c.pace_of-slope.ensures c.pace_of-slope.type_inv
    c.if-is_set.ensures

pub loop-i-preserved : goal.loop-i-preserved
loop-i-preserved c =
    let rs = c.rules-rules.result.now in
    let w : Within (all_meant rs) = rw c.rules-rules.ensures.rules c.rules-rules.ensures.within in
    let i = c.loop-i.i in
    let m = c.args.holding in
    elim c.if-is_set.branch [
      | then-is_set v ↦
          v.slope-is ∙ added rs w m i _ c.loop-i-test.true _ v.pace_of-slope.result c.loop-i.invariant v.pace_of-slope.ensures v.pace_of-slope.type_inv v.if-is_set.ensures
      | else-is_set v ↦ v.slope-is ∙ not_added rs w m i (Take 0 0 0) c.loop-i-test.true _ c.loop-i.invariant v.if-is_set.ensures
    ]
