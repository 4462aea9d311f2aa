-- The walk up the table: what was found where it stands, and one segment more.
use Rattle.std.proofs.Common.{◌≡◌, ℕ, suc, ◌+◌, ◌*◌, ◌<◌, ◌≤◌, Bool, true, ◌||◌, ltb, eqb, List, [], ◌∷◌, ◌++◌, map, reverse, length, drop, Some, None, Option, MatchOption, IfSome, sym, refl, ap, ◌∙◌, inl, inr, arith}
use Rattle.std.specs.List.{AllByRecursion, flat_map}
use Rattle.raise.proofs.Picks.{none_some, not_picked}
use Rattle.raise.proofs.AllRows.{losing_found, only_rows}
use Rattle.raise.specs.declared.LosingRow.{LosingRow}
use Rattle.raise.specs.Rules.{Rule, loses}
use Rattle.raise.specs.Rows.{lies_in, lies_in_one, Apart, RowsOf, losing_rows}
use Rattle.segments.specs.Segments.{segments, Chain}
use Rattle.segments.proofs.Cover.{segments_cover}
use Rattle.lowest.specs.declared.entries.Entry.{Entry}
use Rattle.lowest.specs.Entries.{read_entry}
use Rattle.lowest.specs.Table.{entry, table, most_entries, EntryOf, SizedEntry, loses_on}
use Rattle.lowest.proofs.Tells.{table_is, by_entry}
use Rattle.losses.specs.Words.{width, row_words, with_row, how_many, with_rows, Fits}
use Rattle.losses.proofs.Slots.{with_last, row_put, rows_fit}
use Rattle.losses.specs.Parts.{PartOf, joined}
use Rattle.losses.proofs.Lists.{map_back, next_read, none_ahead, all_split}
use Rattle.losses.proofs.Behind.{lies_push, apart_first, apart_push, apart_longer, last_some, extended}
use Rattle.std.proofs.lemmas.Grind.{reverse_onto}
use Rattle.std.proofs.lemmas.Simd.{map-map}
use Rattle.std.proofs.lemmas.Bool.{or_right, and_parts, ltb-true, cases_eq, eq-eqb, ne_eqb, eqb-false}
use Rattle.std.proofs.Math.Bool.{or_assoc}
use Rattle.std.proofs.lemmas.List.{map-id, length-map, length_push}

-- the part of an entry's segment that loses
abbrev pub PartIn : Entry → Option LosingRow → Type 0
PartIn e p = PartOf (loses_on e) e.segment.from e.segment.to p

-- what is ahead: the entries, the next of them first, whose segments go on from x up to b
pub record Ahead (rs : List Rule) (b : ℕ) (chunks : List (List ℕ)) : Type 0 where
  pub es : List Entry
  pub read : map read_entry chunks ≡ map Some (reverse es)
  pub each : AllByRecursion (EntryOf rs b) (reverse es)
  pub sized : AllByRecursion SizedEntry (reverse es)
  pub x : ℕ
  pub chain : Chain (map (λ e. e.segment) es) x (suc b)
  pub low : x ≤ 1000000001

-- where the walk stands: rows are written, in words of which ws were there before, and with the last they are those before x
pub record State (rs : List Rule) (b : ℕ) (ws : List ℕ) (chunks : List (List ℕ)) (count : ℕ) (last : Option LosingRow) (us : List ℕ) : Type 0 where
  pub ahead : Ahead rs b chunks
  pub rows : List LosingRow
  pub counted : count ≡ length rows
  pub written : us ≡ flat_map row_words rows ++ drop (width * count) ws
  pub found : RowsOf (loses rs b) ahead.x (with_last rows last)
  pub fresh : last ≡ None → rows ≡ []
  pub room : length (with_last rows last) + length ahead.es ≤ most_entries rs

-- closed, so that a search goes by the lemmas about it
pub data At (rs : List Rule) (b : ℕ) (ws : List ℕ) (chunks : List (List ℕ)) (count : ℕ) (last : Option LosingRow) (us : List ℕ) : Type 0 where
  at : State rs b ws chunks count last us → At rs b ws chunks count last us

state : {rs : List Rule} {b : ℕ} {ws : List ℕ} {chunks : List (List ℕ)} {count : ℕ} {last : Option LosingRow} {us : List ℕ} → At rs b ws chunks count last us → State rs b ws chunks count last us
state (at s) = s

-- ---- the beginning: all entries are ahead

module _ (rs : List Rule) (b : ℕ) where
  upward : List Entry
  upward = map (entry rs b) (segments rs b)

  back : reverse upward ≡ table rs b
  unfolding table upward
  back = map_back (entry rs b) (segments rs b)

  pub begins : (ws : List ℕ) (chunks : List (List ℕ)) → map read_entry chunks ≡ map Some (table rs b) → AllByRecursion SizedEntry (table rs b) → At rs b ws chunks 0 None ws
  unfolding Apart lies_in_one upward
  begins ws chunks e z =
      let c = segments_cover rs b in
      let s : map (λ (e : Entry). e.segment) upward ≡ segments rs b = map-map (λ (e : Entry). e.segment) (entry rs b) (segments rs b) ∙ map-id (segments rs b) in
      at (record {
        ahead = record { es = upward; read = rw back e; each = rw back (table_is rs b).each; sized = rw back z; x = 0; chain = rw s c.in_order; low = omega arith };
        rows = [];
        counted = refl;
        written = refl;
        found = record { apart = tt; exact = λ g. grind arith };
        fresh = λ e. refl;
        room = omega (arith, length-map (segments rs b) (entry rs b), c.few);
      })

-- the last row is before what is not yet looked at
ends_before : (test : ℕ → Bool) (x : ℕ) (rows : List LosingRow) (r : LosingRow) → RowsOf test x (rows ++ (r ∷ [])) → r.last < x
ends_before test x rows r i =
    let o = last_some 0 rows r i.apart in
    let l : lies_in_one (rows ++ (r ∷ [])) r.last ≡ true = lies_push rows r r.last ∙ or_right (lies_in_one rows r.last) (lies_in r r.last) (grind (arith, o)) in
    ltb-true r.last x (and_parts (ltb r.last x) (test r.last) (sym (i.exact r.last) ∙ l)).0

-- ---- one segment more

module _ {rs : List Rule} {b : ℕ} {ws : List ℕ} {all : List (List ℕ)} {count : ℕ} {last : Option LosingRow} {us : List ℕ} (h : At rs b ws all count last us)
    (chunks : List (List ℕ)) (words : List ℕ) (next : all ≡ chunks ++ (words ∷ [])) where
  pub a : State rs b ws all count last us
  a = state h

  pub first : (e : Entry) × (ds : List Entry) × (a.ahead.es ≡ e ∷ ds) × (map read_entry chunks ≡ map Some (reverse ds)) × (read_entry words ≡ Some e)
  first = next_read read_entry a.ahead.es chunks words (ap (map read_entry) (sym next) ∙ a.ahead.read)

  abbrev pub e : Entry
  e = first.0

  abbrev ds : List Entry
  ds = first.1

  turned : reverse a.ahead.es ≡ reverse ds ++ (e ∷ [])
  turned = ap reverse first.2 ∙ reverse_onto ds e []

  each : AllByRecursion (EntryOf rs b) (reverse ds) × EntryOf rs b e
  each = all_split (EntryOf rs b) (reverse ds) e (rw turned at a.ahead.each)

  sized : AllByRecursion SizedEntry (reverse ds) × SizedEntry e
  sized = all_split SizedEntry (reverse ds) e (rw turned at a.ahead.sized)

  chain : (e.segment.from ≡ a.ahead.x) × Chain (map (λ (e : Entry). e.segment) ds) e.segment.to (suc b)
  unfolding Chain
  chain = rw first.2 at a.ahead.chain

  some : e.segment.from < e.segment.to
  some = each.1.segment.ends.above

  others : Ahead rs b chunks
  others = record { es = ds; read = first.3; each = each.0; sized = sized.0; x = e.segment.to; chain = chain.1; low = sized.1.segment.to }

  same : (o : Option Entry) → o ≡ read_entry words → (x : Entry) → o ≡ Some x → e ≡ x
  same o f x g = let k : Some e ≡ Some x = sym first.4 ∙ sym f ∙ g in cc

  pub read_sized : (o : Option Entry) → o ≡ read_entry words → (x : Entry) → o ≡ Some x → SizedEntry x × (x.segment.from < x.segment.to)
  read_sized o f x g = rw (← same o f x g) (sized.1, some)

  -- the part of what was read
  part_read : (o : Option Entry) (p : Option LosingRow) → o ≡ read_entry words → MatchOption o (p ≡ None) (λ x. PartIn x p) → PartIn e p
  part_read None p f m = none_some e (f ∙ first.4)
  part_read (Some x) p f m = rw (same (Some x) f x refl) m

  -- on its segment
  here : (g : ℕ) → a.ahead.x ≤ g → g < e.segment.to → loses rs b g ≡ loses_on e g
  here g lo hi = by_entry rs b e each.1 g (omega (arith, chain.0, lo)) hi

  more : a.ahead.x < e.segment.to
  more = omega (arith, chain.0, some)

  module _ (p : Option LosingRow) (part : PartIn e p) where
    passing : PartOf (loses rs b) a.ahead.x e.segment.to p
    passing = record { exact = λ g lo hi. part.exact g (omega (arith, chain.0, lo)) hi ∙ sym (here g lo hi); within = rw (← chain.0) part.within }

  -- no part of it loses
  pub passes : (o : Option Entry) → o ≡ read_entry words → MatchOption o (◌≡◌ {A = Option LosingRow} None None) (λ x. PartIn x None) → At rs b ws chunks count last us
  unfolding others
  passes o f m =
      let part = part_read o None f m in
      at (record {
        ahead = others;
        rows = a.rows;
        counted = a.counted;
        written = a.written;
        found = extended (loses rs b) a.ahead.x e.segment.to more None (passing None part) (with_last a.rows last) (with_last a.rows last) a.found (λ g. grind arith) a.found.apart;
        fresh = a.fresh;
        room = omega (arith, a.room, ap length first.2);
      })

  module _ (p : LosingRow) (o : Option Entry) (f : o ≡ read_entry words) (m : MatchOption o (Some p ≡ None) (λ x. PartIn x (Some p))) where
    part : PartIn e (Some p)
    part = part_read o (Some p) f m

    q : PartOf (loses rs b) a.ahead.x e.segment.to (Some p)
    q = passing (Some p) part

    pub last_before : IfSome last (λ r. r.last < p.first)
    last_before = by_last last a.found
      where
        by_last : (l : Option LosingRow) → RowsOf (loses rs b) a.ahead.x (with_last a.rows l) → IfSome l (λ r. r.last < p.first)
        by_last None i = tt
        by_last (Some r) i = omega (arith, ends_before (loses rs b) a.ahead.x a.rows r i, q.within.0)

    -- the last row and it are one
    longer_found : (l longer : Option LosingRow) → RowsOf (loses rs b) a.ahead.x (with_last a.rows l) → longer ≡ joined l p → (longer ≡ None → ⊥) →
        RowsOf (loses rs b) e.segment.to (with_last a.rows longer) × (length (with_last a.rows longer) ≡ length (with_last a.rows l))
    longer_found None longer i j some = absurd (some j)
    longer_found (Some r) longer i j some =
        elim (cases_eq p.first (suc r.last)) [
          | inr apart ↦ absurd (some (j ∙ rw (ne_eqb _ _ apart) refl))
          | inl touch ↦
              let k : LosingRow = record { first = r.first; last = p.last } in
              let t : longer ≡ Some k = j ∙ rw (eq-eqb _ _ touch) refl in
              let w = q.within in
              let o = last_some 0 a.rows r i.apart in
              let both : (g : ℕ) → lies_in k g ≡ (lies_in r g || lies_in p g) = λ g. grind (arith, touch, o, w.1) in
              let same : (g : ℕ) → lies_in_one (a.rows ++ (k ∷ [])) g ≡ (lies_in_one (a.rows ++ (r ∷ [])) g || lies_in p g) =
              λ g. lies_push a.rows k g ∙ ap (λ (t : Bool). lies_in_one a.rows g || t) (both g) ∙ sym (or_assoc (lies_in_one a.rows g) (lies_in r g) (lies_in p g)) ∙
              ap (λ (t : Bool). t || lies_in p g) (sym (lies_push a.rows r g)) in
              rw t (
                extended (loses rs b) a.ahead.x e.segment.to more (Some p) q (a.rows ++ (r ∷ [])) (a.rows ++ (k ∷ [])) i same (apart_longer 0 a.rows r p i.apart (omega (arith, touch, w.1))),
                length_push a.rows k ∙ sym (length_push a.rows r),
              )
        ]

    pub joins : (longer : Option LosingRow) → longer ≡ joined last p → (longer ≡ None → ⊥) → At rs b ws chunks count longer us
    unfolding others
    joins longer j some =
        let i = longer_found last longer a.found j some in
        at (record {
          ahead = others;
          rows = a.rows;
          counted = a.counted;
          written = a.written;
          found = i.0;
          fresh = λ z. absurd (some z);
          room = omega (arith, a.room, ap length first.2, i.1);
        })

    -- the last row is written, and it is the last one now
    pub parts : (n : ℕ) (vs : List ℕ) → None ≡ joined last p → n ≡ how_many last + count → vs ≡ with_row us count last → At rs b ws chunks n (Some p) vs
    unfolding others
    parts n vs j c w =
        let rows = with_last a.rows last in
        let put = row_put ws us a.rows count last a.counted a.written in
        at (record {
          ahead = others;
          rows = rows;
          counted = c ∙ put.0;
          written = rw c (w ∙ put.1);
          found = extended (loses rs b) a.ahead.x e.segment.to more (Some p) q rows (rows ++ (p ∷ [])) a.found (λ g. lies_push rows p g) (apart last a.found j a.fresh);
          fresh = λ z. none_some p (sym z);
          room = omega (arith, a.room, ap length first.2, length_push rows p);
        })
      where
        apart : (l : Option LosingRow) → RowsOf (loses rs b) a.ahead.x (with_last a.rows l) → None ≡ joined l p → (l ≡ None → a.rows ≡ []) → Apart 0 (with_last a.rows l ++ (p ∷ []))
        apart None i j f = rw (f refl) (apart_first 0 p (omega arith) q.within.1)
        apart (Some r) i j f =
            let n = eqb-false _ _ (not_picked (eqb p.first (suc r.last)) (record { first = r.first; last = p.last }) j) in
            apart_push 0 a.rows r p i.apart (omega (arith, ends_before (loses rs b) a.ahead.x a.rows r i, q.within.0, n)) q.within.1

-- ---- what the walk ends with

module _ {rs : List Rule} {b : ℕ} {ws : List ℕ} {chunks : List (List ℕ)} {count : ℕ} {last : Option LosingRow} {us : List ℕ} (h : At rs b ws chunks count last us) where
  s : State rs b ws chunks count last us
  s = state h

  -- there is room for the last row
  pub room : (n : ℕ) → width * most_entries rs ≤ n → IfSome last (λ r. width * count + width ≤ n)
  room n le = by_last last s.room
    where
      by_last : (l : Option LosingRow) → length (with_last s.rows l) + length s.ahead.es ≤ most_entries rs → IfSome l (λ r. width * count + width ≤ n)
      by_last None i = tt
      by_last (Some r) i = omega (arith, i, length_push s.rows r, s.counted, le)

  module _ (none : length chunks ≡ 0) where
    at_end : s.ahead.x ≡ suc b
    unfolding Chain
    at_end = rw (none_ahead read_entry s.ahead.es chunks none s.ahead.read) at s.ahead.chain

    all : with_last s.rows last ≡ losing_rows rs b
    all = only_rows (loses rs b) (suc b) (with_last s.rows last) (losing_rows rs b) (rw at_end at s.found) (losing_found rs b)

    pub ends_count : (n : ℕ) → n ≡ how_many last + count → n ≡ length (losing_rows rs b)
    ends_count n c = c ∙ (row_put ws us s.rows count last s.counted s.written).0 ∙ ap length all

    pub ends_few : (n : ℕ) → n ≡ how_many last + count → n ≤ most_entries rs
    ends_few n c = omega (arith, c, (row_put ws us s.rows count last s.counted s.written).0, s.room)

    pub ends_words : (vs : List ℕ) → vs ≡ with_row us count last → vs ≡ with_rows ws (losing_rows rs b)
    ends_words vs w =
        let put = row_put ws us s.rows count last s.counted s.written in
        rw (put.0, all) at (w ∙ put.1)

    pub ends_fit : AllByRecursion Fits (losing_rows rs b)
    ends_fit = rows_fit rs b (omega (arith, at_end, s.ahead.low))
