-- The walk down the table: the most that is lost from where it stands on, and one entry more.
use Rattle.std.proofs.Common.{◌≡◌, ℕ, suc, ◌+◌, ◌<◌, ◌≤◌, List, [], ◌∷◌, ◌++◌, map, reverse, length, get_or, drop, max, Some, None, sym, refl, ap, ◌∙◌, inl, inr, arith}
use Rattle.std.specs.List.{AllByRecursion}
use Rattle.std.proofs.lemmas.Int.{ints}
use Rattle.std.proofs.lemmas.Bool.{cases_lt}
use Rattle.std.proofs.lemmas.Grind.{reverse_onto}
use Rattle.std.proofs.lemmas.List.{drop_all, length-map}
use Rattle.raise.proofs.Picks.{none_some}
use Rattle.raise.specs.declared.LosingRow.{LosingRow}
use Rattle.raise.specs.Rules.{Rule, lesser}
use Rattle.raise.specs.Net.{net}
use Rattle.raise.specs.Rows.{greater}
use Rattle.segments.specs.declared.lines.Segment.{Segment}
use Rattle.segments.specs.Segments.{segments, Chain}
use Rattle.segments.proofs.Cover.{segments_cover}
use Rattle.lowest.specs.declared.entries.Entry.{Entry}
use Rattle.lowest.specs.Entries.{read_entry}
use Rattle.lowest.specs.Table.{table, EntryOf, SizedEntry}
use Rattle.lowest.proofs.Tells.{table_is}
use Rattle.losses.specs.Most.{MostOver, MostLost}
use Rattle.losses.proofs.Lists.{read_at}

-- each segment ends where the one before it begins, the first at e, and the last begins at x
pub Falls : List Segment → ℕ → ℕ → Type 0
Falls [] e x = e ≡ x
Falls (s ∷ ss) e x = (s.to ≡ e) × Falls ss s.from x

falls_push : (ss : List Segment) (s : Segment) (e x y : ℕ) → Falls ss e y → s.to ≡ y → s.from ≡ x → Falls (ss ++ (s ∷ [])) e x
unfolding Falls
falls_push [] s e x y f t b = (t ∙ sym f, b)
falls_push (r ∷ ss) s e x y f t b = (f.0, falls_push ss s r.from x y f.1 t b)

-- a chain, turned round
falls_back : (ss : List Segment) (x e : ℕ) → Chain ss x e → Falls (reverse ss) e x
unfolding Falls Chain
falls_back [] x e c = sym c
falls_back (s ∷ ss) x e c = rw (reverse_onto ss s []) (falls_push (reverse ss) s e x s.to (falls_back ss s.to e c.1) refl c.0)

-- those of the entries that are not yet read, each of which is as large as can be computed with; what is lost from x on is known
pub record State (rs : List Rule) (b : ℕ) (r : LosingRow) (chunks : List (List ℕ)) (i most : ℕ) : Type 0 where
  pub es : List Entry
  pub read : map read_entry chunks ≡ map Some es
  pub each : AllByRecursion (EntryOf rs b) (drop i es)
  pub sized : AllByRecursion SizedEntry (drop i es)
  pub x : ℕ
  pub falls : Falls (map (λ (e : Entry). e.segment) (drop i es)) x 0
  pub found : MostOver (net rs) b (greater x r.first) (suc r.last) most

-- closed, so that a search goes by the lemmas about it
pub data At (rs : List Rule) (b : ℕ) (r : LosingRow) (chunks : List (List ℕ)) (i most : ℕ) : Type 0 where
  at : State rs b r chunks i most → At rs b r chunks i most

state : {rs : List Rule} {b : ℕ} {r : LosingRow} {chunks : List (List ℕ)} {i most : ℕ} → At rs b r chunks i most → State rs b r chunks i most
state (at s) = s

-- above the bound nothing is lost
pub begins : (rs : List Rule) (b : ℕ) (r : LosingRow) (chunks : List (List ℕ)) → map read_entry chunks ≡ map Some (table rs b) → AllByRecursion SizedEntry (table rs b) → At rs b r chunks 0 0
begins rs b r chunks e z =
    at (record {
      es = table rs b;
      read = e;
      each = (table_is rs b).each;
      sized = z;
      x = suc b;
      falls = rw (table_is rs b).segments (falls_back (segments rs b) 0 (suc b) (segments_cover rs b).in_order);
      found = record { bounds = λ g h lo hi above within. absurd (grind (arith, lo, above, within)); reached = λ some. absurd (omega arith) };
    })

lower : (x y a g : ℕ) → y ≤ x → greater x a ≤ g → greater y a ≤ g
lower x y a g le up = grind arith

sooner : (x a g : ℕ) → g < lesser x a → g < a
sooner x a g lt = grind arith

-- one stretch more, that ends where what is known begins
joined : (rs : List Rule) (b : ℕ) (r : LosingRow) (y x m n : ℕ) → y ≤ x → MostOver (net rs) b (greater x r.first) (suc r.last) m → MostOver (net rs) b (greater y r.first) (lesser x (suc r.last)) n →
    MostOver (net rs) b (greater y r.first) (suc r.last) (max m n)
joined rs b r y x m n le i j =
    record {
      bounds = λ g h lo hi above within. elim (cases_lt g x) [
        | inl here ↦ let k = j.bounds g h lo (grind (arith, here, hi)) above within in omega (arith, ints, k)
        | inr past ↦ let k = i.bounds g h (grind (arith, past, lo)) hi above within in omega (arith, ints, k)
      ];
      reached = λ some. elim (cases_lt m n) [
        | inl less ↦ let e : max m n ≡ n = omega arith in let k = j.reached (omega arith) in rw e (k.0, k.1, k.2, sooner x (suc r.last) k.0 k.3, k.4, k.5, k.6)
        | inr not ↦ let e : max m n ≡ m = omega arith in let k = i.reached (omega arith) in rw e (k.0, k.1, lower x y r.first k.0 le k.2, k.3, k.4, k.5, k.6)
      ];
    }

module _ {rs : List Rule} {b : ℕ} {r : LosingRow} {chunks : List (List ℕ)} {i most : ℕ} (h : At rs b r chunks i most) where
  s : State rs b r chunks i most
  s = state h

  module _ (d : List ℕ) (lt : i < length chunks) where
    k : (e : Entry) × (read_entry (get_or chunks i d) ≡ Some e) × (drop i s.es ≡ e ∷ drop (i + 1) s.es)
    k = read_at read_entry s.es chunks i d s.read lt

    each : EntryOf rs b k.0 × AllByRecursion (EntryOf rs b) (drop (i + 1) s.es)
    each = rw k.2 at s.each

    sized : SizedEntry k.0 × AllByRecursion SizedEntry (drop (i + 1) s.es)
    sized = rw k.2 at s.sized

    falls : (k.0.segment.to ≡ s.x) × Falls (map (λ (e : Entry). e.segment) (drop (i + 1) s.es)) k.0.segment.from 0
    unfolding Falls
    falls = rw k.2 at s.falls

    module _ (e : Entry) (f : Some e ≡ read_entry (get_or chunks i d)) where
      same : k.0 ≡ e
      same = let g : Some k.0 ≡ Some e = sym k.1 ∙ sym f in cc

      pub read_sized : SizedEntry e × (e.segment.from < e.segment.to)
      read_sized = rw (← same) (sized.0, each.0.segment.ends.above)

      pub goes_on : (n : ℕ) → ((rs : List Rule) (b : ℕ) → EntryOf rs b e → MostOver (net rs) b (greater e.segment.from r.first) (lesser e.segment.to (suc r.last)) n) → (q : ℕ) → q ≡ max most n → At rs b r chunks (i + 1) q
      goes_on n m q a =
          let o : EntryOf rs b e = rw (← same) each.0 in
          let t : e.segment.to ≡ s.x = rw (← same) falls.0 in
          let p = rw t at (m rs b o) in
          at (record {
            es = s.es;
            read = s.read;
            each = each.1;
            sized = sized.1;
            x = e.segment.from;
            falls = rw (← same) falls.1;
            found = rw a (joined rs b r e.segment.from s.x most n (omega (arith, t, o.segment.ends.above)) s.found p);
          })

    -- each of them can be read
    pub readable : None ≡ read_entry (get_or chunks i d) → ⊥
    readable n = none_some k.0 (n ∙ k.1)

  pub ends : length chunks ≤ i → MostLost rs b r most
  unfolding Falls
  ends le =
      let l : length s.es ≤ i = omega (arith, ap length s.read, length-map chunks read_entry, length-map s.es (λ (e : Entry). Some e), le) in
      let z : s.x ≡ 0 = rw (drop_all i s.es l) at s.falls in
      let f : greater 0 r.first ≡ r.first = grind arith in
      rw (z, f) at s.found
