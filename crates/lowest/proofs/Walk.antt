-- The walk from the bound down: what has been written where it stands, and one entry more.
use Rattle.std.proofs.Common.{◌≡◌, ℕ, suc, ◌+◌, ◌-◌, ◌*◌, ◌≤◌, false, leb, List, [], ◌∷◌, ◌++◌, map, reverse, length, take, drop, ℤ, Some, None, Option, sym, refl, ap, ◌∙◌, inl, inr, arith}
use Rattle.std.proofs.lemmas.Grind.{reverse_onto}
use Rattle.std.proofs.lemmas.List.{length-reverse, length-map, length_push, map-append}
use Rattle.std.proofs.lemmas.Bool.{lt-leb}
use Rattle.raise.specs.Rules.{Rule}
use Rattle.raise.specs.Lowest.{least_over, lowest_from, lowest_with}
use Rattle.raise.proofs.Lows.{lowest_down}
use Rattle.segments.specs.declared.lines.Segment.{Segment}
use Rattle.segments.specs.Points.{next_breakpoint}
use Rattle.segments.specs.Segments.{segment_at, segments_from}
use Rattle.segments.proofs.Cover.{segment_line, one_more, at_most, segment_right}
use Rattle.lowest.specs.declared.entries.Entry.{Entry}
use Rattle.hinges.specs.Below.{breakpoint_below}
use Rattle.lowest.specs.Entries.{width, entry_words, table_words}
use Rattle.lowest.specs.Table.{entry, table, most_entries}
use Rattle.lowest.proofs.Points.{Stands, Below, is_below}
use Rattle.book.proofs.Stored.{one_written}
use Rattle.lowest.proofs.Words.{entry_long}

module _ (rs : List Rule) (b : ℕ) where
  -- the entries of all segments from x on, the last first
  pub entries_from : ℕ → List Entry
  entries_from x = map (entry rs b) (reverse (segments_from rs b (2 * length rs + 1) x))

  pub few : (x : ℕ) → length (entries_from x) ≤ most_entries rs
  unfolding entries_from
  few x =
      let ss = segments_from rs b (2 * length rs + 1) x in
      omega (arith, length-map (reverse ss) (entry rs b), length-reverse ss, at_most rs b (2 * length rs + 1) x)

  -- none past the bound
  none_past : entries_from (suc b) ≡ []
  unfolding entries_from segments_from
  none_past = let z : 2 * length rs + 1 ≡ suc (2 * length rs) = omega arith in let t : leb (suc b) b ≡ false = lt-leb _ _ (omega arith) in rw z (rw t refl)

  -- from 0 on it is the whole table
  pub all_from : entries_from 0 ≡ table rs b
  unfolding entries_from table
  all_from = refl

  pub few_in : length (table rs b) ≤ most_entries rs
  few_in = rw (← all_from) (few 0)

  pub one_below : (x y : ℕ) → Stands rs b x → Below rs b x y → entries_from y ≡ entries_from x ++ (record { segment = segment_at rs b y; lowest_above = lowest_from rs b x } ∷ [])
  unfolding entries_from
  one_below x y at i =
      let s = segment_at rs b y in
      let ss = segments_from rs b (2 * length rs + 1) x in
      let m = one_more rs b y (omega (arith, i.less, at.1)) ∙ ap (λ (z : ℕ). s ∷ segments_from rs b (2 * length rs + 1) z) i.next in
      ap (λ (qs : List Segment). map (entry rs b) (reverse qs)) m ∙ ap (map (entry rs b)) (reverse_onto ss s []) ∙ map-append (entry rs b) (reverse ss) (s ∷ []) ∙
      ap (λ (z : ℕ). map (entry rs b) (reverse ss) ++ (record { segment = s; lowest_above = lowest_from rs b z } ∷ [])) i.next

  -- where the walk stands, how many entries there are, the lowest from there on, and the words, of which ws were there before
  pub record State (ws : List ℕ) (x count : ℕ) (m : Option ℤ) (us : List ℕ) : Type 0 where
    pub stands : Stands rs b x
    pub counted : count ≡ length (entries_from x)
    pub lowest : m ≡ lowest_from rs b x
    pub written : us ≡ table_words (entries_from x) ++ drop (width * count) ws

  -- closed, so that a search goes by the lemmas about it
  pub data At (ws : List ℕ) (x count : ℕ) (m : Option ℤ) (us : List ℕ) : Type 0 where
    at : State ws x count m us → At ws x count m us

  state : {ws : List ℕ} {x count : ℕ} {m : Option ℤ} {us : List ℕ} → At ws x count m us → State ws x count m us
  state (at s) = s

  pub stands : {ws : List ℕ} {x count : ℕ} {m : Option ℤ} {us : List ℕ} → At ws x count m us → Stands rs b x
  stands h = (state h).stands

  pub begins : (ws : List ℕ) (n : ℕ) → n ≡ b → At ws (suc n) 0 None ws
  unfolding least_over
  begins ws n e =
      let s : suc n ≡ suc b = omega arith in
      let z : suc b - suc n ≡ 0 = omega arith in
      let m : entries_from (suc n) ≡ [] = ap entries_from s ∙ none_past in
      at (record { stands = (omega arith, omega arith, inr s); counted = rw m refl; lowest = rw z refl; written = rw m refl })

-- one entry more, down to y
module _ {rs : List Rule} {b : ℕ} {ws : List ℕ} {x count : ℕ} {m : Option ℤ} {us : List ℕ} (h : At rs b ws x count m us) (y : ℕ) (found : y ≡ breakpoint_below rs x) where
  a : State rs b ws x count m us
  a = state rs b h

  pub below : Below rs b x y
  below = rw found (is_below rs b x a.stands)

  pub within : y ≤ b
  within = omega (arith, below.less, a.stands.1)

  pub room_for_one : count + 1 ≤ most_entries rs
  room_for_one =
      let added : Entry = record { segment = segment_at rs b y; lowest_above = lowest_from rs b x } in
      omega (arith, few rs b y, ap length (one_below rs b x y a.stands below), length_push (entries_from rs b x) added, a.counted)

  module _ (s : Segment) (f : s ≡ segment_at rs b y) where
    abbrev pub added : Entry
    added = record { segment = s; lowest_above = m }

    longer : entries_from rs b y ≡ entries_from rs b x ++ (added ∷ [])
    longer = rw (f, a.lowest) (one_below rs b x y a.stands below)

    pub counted : count + 1 ≡ length (entries_from rs b y)
    counted = omega (arith, ap length longer, length_push (entries_from rs b x) added, a.counted)

    module _ (vs : List ℕ) (put : vs ≡ take (width * count) us ++ (entry_words added ++ drop (width * count + width) us)) where
      pub written : vs ≡ table_words (entries_from rs b y) ++ drop (width * (count + 1)) ws
      written =
          let w = one_written entry_words width entry_long (entries_from rs b x) added ws us (rw (← a.counted) a.written) in
          rw (longer, a.counted) (rw a.counted at put ∙ w)

      pub goes_on : (low : ℤ) → (y ≡ 0 → ⊥) → low ≡ lowest_with s.from s.to s.net s.slope m → At rs b ws y (count + 1) (Some low) vs
      goes_on low some l =
          let n = next_breakpoint rs b y in
          let t = segment_at rs b y in
          let d = lowest_down rs b y n t.net t.slope (segment_line rs b t (segment_right rs b y within)) in
          let k : m ≡ lowest_from rs b n = a.lowest ∙ ap (lowest_from rs b) (sym below.next) in
          at (record {
            stands = (omega arith, omega (arith, within), inl below.point);
            counted = counted;
            lowest = ap Some (l ∙ ap (λ (q : Segment). lowest_with q.from q.to q.net q.slope m) f) ∙ ap (λ (o : Option ℤ). Some (lowest_with y n t.net t.slope o)) k ∙ sym d;
            written = written;
          })
