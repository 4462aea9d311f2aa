-- On a line that doesn't fall nobody loses by what lies beyond where the last doesn't.
use Rattle.std.proofs.Common.{◌≡◌, ℕ, ◌-◌, ◌≤◌, false, ℤ, pos, negsuc, ◌≤ℤ◌, Some, None, Option, refl, sym, arith}
use lib.Signed.{lt_z}
use Rattle.std.proofs.lemmas.Int.{ints}
use Rattle.raise.specs.Net.{on_line}
use Rattle.raise.specs.Lowest.{lower_than}
use Rattle.raise.proofs.Lines.{rises}
use Rattle.lowest.specs.declared.entries.Entry.{Entry}
use Rattle.lowest.specs.Table.{loses_on}
use Rattle.losses.specs.Parts.{PartOf}

not_lower : (m : Option ℤ) (x y : ℤ) → x ≤ℤ y → lower_than m y ≡ false → lower_than m x ≡ false
not_lower None x y le h = refl
not_lower (Some m) x y le h = grind (arith, ints, le)

-- the line goes up, or is level
up_to_last : (from g last : ℕ) (v d : ℤ) → from ≤ g → g ≤ last → pos 0 ≤ℤ d → on_line from v d g ≤ℤ on_line from v d last
up_to_last from g last v (pos r) lo le up = rises from g last v r lo le
up_to_last from g last v (negsuc r) lo le up = absurd (omega (arith, ints, up))

pub nobody : (e : Entry) → pos 0 ≤ℤ e.segment.slope → lower_than e.lowest_above (on_line e.segment.from e.segment.net e.segment.slope (e.segment.to - 1)) ≡ false →
    PartOf (loses_on e) e.segment.from e.segment.to None
nobody e up h =
    let s = e.segment in
    let d : lt_z s.slope (pos 0) ≡ false = grind (arith, ints, up) in
    record {
      exact = λ g lo hi. rw d (sym (not_lower e.lowest_above _ _ (up_to_last s.from g (s.to - 1) s.net s.slope lo (omega (arith, hi)) up) h));
      within = tt;
    }
