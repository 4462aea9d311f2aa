use Rattle.std.proofs.Common.{◌≡◌, refl, ◌∙◌, w64, to_z, of_z}
use Rattle.std.proofs.lemmas.Int.{to_z-of_z}
use Rattle.raise.specs.Net.{net, slope}
use Rattle.segments.specs.Bits.{Holding}
use Rattle.segments.specs.Points.{next_breakpoint}
use Rattle.segments.proofs.Cover.{segment_right, segment_sized, segments_cover}
use Rattle.segments.proofs.Paces.{slope_held}
use Rattle.segments.proofs.lines.segment_from.Goals as goal

pub returns : goal.returns
returns c =
    let b = c.args.book.now in
    let g = c.args.from in
    let r = c.rules-rules.ensures.rules in
    let v : to_z w64 (of_z w64 c.net_of.result) ≡ net b.rules g = to_z-of_z w64 c.net_of.result (record { sfits = c.net_of.type_inv }) ∙ c.net_of.ensures in
    let here : Holding b.rules g c.holding_at.result = rw r at c.holding_at.ensures.here in
    let d : to_z w64 (of_z w64 c.slope_on.result) ≡ slope b.rules g =
    to_z-of_z w64 c.slope_on.result (record { sfits = c.slope_on.type_inv }) ∙ c.slope_on.ensures ∙ slope_held b.rules g c.holding_at.result here in
    let n : c.next_breakpoint.result ≡ next_breakpoint b.rules b.bound g = rw (r, c.bound.ensures.value) at c.next_breakpoint.ensures.next in
    let low = rw n at c.next_breakpoint.ensures.low in
    rw (n, v, d)
    (record {
      segment = refl;
      line = segment_right b.rules b.bound g c.requires;
      sized = segment_sized b.rules b.bound g c.requires low c.rules-rules.ensures.within;
      covers = segments_cover;
    })
