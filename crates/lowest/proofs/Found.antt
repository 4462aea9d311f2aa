-- The segment that ends where the walk stands, by the hinges.
use Rattle.std.proofs.Common.{◌≡◌, ℕ, suc, ◌<◌, ◌≤◌, List, sym, ap, ◌∙◌, arith}
use Rattle.raise.specs.Rules.{Rule}
use Rattle.raise.specs.Net.{net, slope}
use Rattle.book.specs.Held.{Within}
use Rattle.segments.specs.declared.lines.Segment.{Segment}
use Rattle.segments.specs.Segments.{segment_at, Sized}
use Rattle.segments.proofs.Cover.{segment_sized}
use Rattle.hinges.specs.declared.hinge.Hinge.{Hinge}
use Rattle.hinges.specs.Below.{breakpoint_below}
use Rattle.hinges.specs.Hinges.{HingesOf, sum_of, segment_by}
use Rattle.hinges.proofs.Tells.{segments_tell}
use Rattle.lowest.proofs.Points.{Stands, Below, is_below}

module _ {rs : List Rule} {b : ℕ} (low : b ≤ 1000000000) {last : ℕ} (stands : Stands rs b (suc last)) {hs : List Hinge} (of : HingesOf rs hs) {t : Segment} (e : t ≡ segment_by (sum_of hs last) last) where
  last_low : last ≤ 1000000000
  last_low = omega (arith, stands.1, low)

  below : Below rs b (suc last) (breakpoint_below rs (suc last))
  below = is_below rs b (suc last) stands

  told : t ≡ record { from = breakpoint_below rs (suc last); to = suc last; net = net rs (breakpoint_below rs (suc last)); slope = slope rs (breakpoint_below rs (suc last)) }
  told = e ∙ segments_tell rs hs last of last_low

  pub found : t.from ≡ breakpoint_below rs (suc last)
  found = ap (λ (s : Segment). s.from) told

  pub segment_is : t ≡ segment_at rs b t.from
  segment_is =
      let y = breakpoint_below rs (suc last) in
      told ∙ ap (λ (z : ℕ). record { from = y; to = z; net = net rs y; slope = slope rs y }) (sym below.next) ∙ ap (segment_at rs b) (sym found)

  pub segment_some : t.from < t.to
  segment_some = rw told below.less

  pub sized : Within rs → Sized t
  sized w = rw segment_is (segment_sized rs b t.from (omega (arith, found, below.less, stands.1)) (rw found (omega (arith, below.next, last_low))) w)
