-- What the table says: of each segment the lowest beyond it, of each earning whether it loses, and how large its numbers are.
use Rattle.std.proofs.Common.{◌≡◌, ℕ, suc, ◌+◌, ◌-◌, ◌*◌, ◌<◌, ◌≤◌, ◌&&◌, ltb, leb, List, [], ◌∷◌, ◌++◌, map, reverse, length, ℤ, nat_abs, Some, None, Option, IfSome, sym, refl, ap, ◌∙◌, inl, inr, w64, SFits, arith}
use Rattle.std.specs.List.{AllByRecursion}
use Rattle.std.proofs.lemmas.Int.{fits_signed_from_abs, ints}
use Rattle.std.proofs.lemmas.Grind.{reverse_onto}
use Rattle.std.proofs.lemmas.Simd.{map-map}
use Rattle.std.proofs.lemmas.List.{map-id}
use Rattle.std.proofs.lemmas.Bool.{cases_Bool, and_parts, leb-true, ltb-true}
use Rattle.raise.specs.Rules.{Rule, loses}
use Rattle.raise.specs.Net.{net, on_line}
use Rattle.raise.specs.Lowest.{least_over, lowest_from, Lowest}
use Rattle.raise.proofs.Lows.{lowest_is, only, loses_on_a_line}
use Rattle.book.specs.Held.{Within}
use Rattle.segments.specs.declared.lines.Segment.{Segment}
use Rattle.segments.specs.Segments.{SegmentOf, Sized, segments, how_many_on}
use Rattle.segments.proofs.Paces.{net_small}
use Rattle.segments.proofs.Cover.{segment_line, each, each_sized, segments_cover}
use Rattle.lowest.specs.declared.entries.Entry.{Entry}
use Rattle.lowest.specs.Entries.{Fits}
use Rattle.lowest.specs.Table.{entry, table, EntryOf, TableOf, IsTable, SizedEntry, loses_on, loses_by, TableTells}
use Rattle.lowest.proofs.Lists.{all_back, all_map, all_both}

-- ---- the lowest beyond

none_beyond : (rs : List Rule) (b x : ℕ) → x ≡ suc b → lowest_from rs b x ≡ None
unfolding least_over
none_beyond rs b x e = let z : suc b - x ≡ 0 = omega arith in rw z refl

module _ (rs : List Rule) (b : ℕ) where
  entry_of_segment : (s : Segment) → SegmentOf rs b s → EntryOf rs b (entry rs b s)
  entry_of_segment s i =
      record {
        segment = i;
        lowest = lowest_is rs b s.to;
        none = (
          λ e. let l : Lowest (net rs) s.to (suc b) None = rw e at (lowest_is rs b s.to) in omega (arith, l, i.ends.within),
          none_beyond rs b s.to,
        );
      }

pub table_is : (rs : List Rule) (b : ℕ) → TableOf rs b (table rs b)
unfolding table
table_is rs b =
    record {
      segments = map-map (λ (e : Entry). e.segment) (entry rs b) (reverse (segments rs b)) ∙ map-id (reverse (segments rs b));
      each = all_map (SegmentOf rs b) (EntryOf rs b) (entry rs b) (entry_of_segment rs b) (reverse (segments rs b)) (all_back (SegmentOf rs b) (segments rs b) (each rs b (2 * length rs + 1) 0));
    }

-- the lowest beyond is told by the segment
told : (rs : List Rule) (b : ℕ) (e : Entry) → EntryOf rs b e → e.lowest_above ≡ lowest_from rs b e.segment.to
told rs b e i = only (net rs) e.segment.to (suc b) e.lowest_above (lowest_from rs b e.segment.to) i.lowest (lowest_is rs b e.segment.to)

by_segments : (rs : List Rule) (b : ℕ) (es : List Entry) → AllByRecursion (EntryOf rs b) es → es ≡ map (entry rs b) (map (λ (e : Entry). e.segment) es)
by_segments rs b [] a = refl
by_segments rs b (e ∷ es) a =
    ap (λ (m : Option ℤ). record { segment = e.segment; lowest_above = m } ∷ es) (told rs b e a.0) ∙ ap (λ (ds : List Entry). entry rs b e.segment ∷ ds) (by_segments rs b es a.1)

pub is_table : IsTable
unfolding table
is_table rs b = (table_is rs b, λ es t. by_segments rs b es t.each ∙ ap (map (entry rs b)) t.segments)

-- ---- who loses

many_joined : (ss ts : List Segment) (g : ℕ) → how_many_on (ss ++ ts) g ≡ how_many_on ss g + how_many_on ts g
unfolding how_many_on
many_joined [] ts g = omega arith
many_joined (s ∷ ss) ts g = omega (arith, many_joined ss ts g)

many_back : (ss : List Segment) (g : ℕ) → how_many_on (reverse ss) g ≡ how_many_on ss g
unfolding how_many_on
many_back [] g = refl
many_back (s ∷ ss) g = let i = many_back ss g in let j = many_joined (reverse ss) (s ∷ []) g in rw (reverse_onto ss s []) (omega (arith, i, j))

-- on the segment of an entry
pub by_entry : (rs : List Rule) (b : ℕ) (e : Entry) → EntryOf rs b e → (g : ℕ) → e.segment.from ≤ g → g < e.segment.to → loses rs b g ≡ loses_on e g
by_entry rs b e i g lo hi =
    let s = e.segment in
    let l = loses_on_a_line rs b s.from s.to s.net s.slope (segment_line rs b s i.segment) g lo hi in
    rw (told rs b e i) l

by_entries : (rs : List Rule) (b : ℕ) (es : List Entry) (g : ℕ) → AllByRecursion (EntryOf rs b) es → 0 < how_many_on (map (λ (e : Entry). e.segment) es) g → loses_by es g ≡ loses rs b g
unfolding loses_by how_many_on
by_entries rs b [] g a some = absurd (omega arith)
by_entries rs b (e ∷ es) g a some =
    let s = e.segment in
    elim (cases_Bool (leb s.from g && ltb g s.to)) [
      | inl t ↦ let p = and_parts (leb s.from g) (ltb g s.to) t in rw t (sym (by_entry rs b e a.0 g (leb-true _ _ p.0) (ltb-true _ _ p.1)))
      | inr u ↦ rw u (by_entries rs b es g a.1 (omega (arith, rw u at some)))
    ]

pub table_tells : TableTells
table_tells rs b es t g le =
    let n = ap (λ (ss : List Segment). how_many_on ss g) t.segments ∙ many_back (segments rs b) g ∙ (segments_cover rs b).once g le in
    by_entries rs b es g t.each (omega (arith, n))

-- ---- sizes

module _ (rs : List Rule) (b : ℕ) (low : b ≤ 1000000000) (w : Within rs) where
  lowest_small : (x : ℕ) (m : Option ℤ) → Lowest (net rs) x (suc b) m → IfSome m (λ z. nat_abs z ≤ 1290000000000000)
  lowest_small x None l = tt
  lowest_small x (Some z) l = let i = l.1 in rw (← i.3) (net_small rs i.0 w (omega (arith, i.2)))

  sized_entry : (s : Segment) → Sized s → SizedEntry (entry rs b s)
  sized_entry s z = record { segment = z; lowest = lowest_small s.to (lowest_from rs b s.to) (lowest_is rs b s.to) }

  pub table_sized : AllByRecursion SizedEntry (table rs b)
  unfolding table
  table_sized = all_map Sized SizedEntry (entry rs b) sized_entry (reverse (segments rs b)) (all_back Sized (segments rs b) (each_sized rs b (2 * length rs + 1) 0 low w))

  -- ---- back from words

  lowest_fits : (m : Option ℤ) → IfSome m (λ z. nat_abs z ≤ 1290000000000000) → IfSome m (λ z. SFits w64 z)
  lowest_fits None h = tt
  lowest_fits (Some z) h = fits_signed_from_abs w64 z (omega (arith, h))

  fits : (e : Entry) → EntryOf rs b e → SizedEntry e → Fits e
  fits e i z =
      let s = e.segment in
      let q : s.from - s.from ≡ 0 = omega arith in
      let o : on_line s.from s.net s.slope s.from ≡ s.net = rw q (omega (arith, ints)) in
      let v = rw o at (z.segment.net s.from (omega arith) i.segment.ends.above) in
      record {
        from = omega (arith, i.segment.ends.above, i.segment.ends.within, low);
        to = omega (arith, i.segment.ends.within, low);
        net = fits_signed_from_abs w64 s.net (omega (arith, v));
        slope = fits_signed_from_abs w64 s.slope (omega (arith, z.segment.slope));
        lowest = lowest_fits e.lowest_above z.lowest;
      }

  pub table_fits : AllByRecursion Fits (table rs b)
  table_fits = all_both (EntryOf rs b) SizedEntry Fits fits (table rs b) (table_is rs b).each table_sized
