-- Rows of those who lose: that trying finds them, that no other list says the same, and the row that is told of them.
use Rattle.std.proofs.Common.{◌≡◌, ℕ, zero, suc, ◌+◌, ◌<◌, ◌≤◌, Bool, true, false, ◌&&◌, ltb, leb, List, [], ◌∷◌, Some, None, Option, sym, refl, ap, ◌∙◌, inl, inr, arith}
use Rattle.std.proofs.lemmas.Bool.{both_ways, or_left, and_from, and_parts, cases_lt, cases_eq, cases_Bool, leb-true, leb-false, ltb-true, lt-ltb, eq-eqb, ne_eqb}
use Rattle.raise.specs.declared.LosingRow.{LosingRow}
use Rattle.raise.specs.Rules.{Rule, loses}
use Rattle.raise.specs.Calls.{Answer, Limits, next_row, two, told}
use Rattle.raise.specs.Told.{row_told}
use Rattle.raise.specs.Laws.{FirstRow, RowTold}
use Rattle.raise.specs.Rows.{lies_in, lies_in_one, Apart, RowsOf, LosingRows, with_one, rows_that, losing_rows, greater, first_row_from}
use Rattle.raise.proofs.Rows.{row_stands, at_bound}

-- ---- where rows lie

-- not before the first
pub none_before : (x : ℕ) (rs : List LosingRow) (g : ℕ) → Apart x rs → g < x → lies_in_one rs g ≡ false
unfolding Apart lies_in_one
none_before x [] g a lt = refl
none_before x (r ∷ rs) g a lt = rw (none_before (r.last + 2) rs g a.2 (omega (arith, a.0, a.1))) (grind (arith, a.0))

pub apart_from : (x y : ℕ) (rs : List LosingRow) → x ≤ y → Apart y rs → Apart x rs
unfolding Apart
apart_from x y [] le a = tt
apart_from x y (r ∷ rs) le a = (omega (arith, le, a.0), a.1, a.2)

module _ (x : ℕ) (r : LosingRow) (rs : List LosingRow) (a : Apart x (r ∷ rs)) where
  -- in the first, from its first to its last; not before it, and not just after it
  within : (g : ℕ) → r.first ≤ g → g ≤ r.last → lies_in_one (r ∷ rs) g ≡ true
  unfolding lies_in_one
  within g lo hi = or_left (lies_in r g) _ (grind (arith, lo, hi))

  earlier : (g : ℕ) → g < r.first → lies_in_one (r ∷ rs) g ≡ false
  unfolding lies_in_one Apart
  earlier g lt = rw (none_before (r.last + 2) rs g a.2 (omega (arith, a.1))) (grind (arith, lt))

  after : (g : ℕ) → r.last < g → lies_in_one (r ∷ rs) g ≡ lies_in_one rs g
  unfolding lies_in_one
  after g lt = let n : lies_in r g ≡ false = grind (arith, lt) in rw n refl

  just_after : lies_in_one (r ∷ rs) (suc r.last) ≡ false
  unfolding Apart
  just_after = after (suc r.last) (omega arith) ∙ none_before (r.last + 2) rs (suc r.last) a.2 (omega arith)

-- ---- no other list says the same

module _ (x y : ℕ) (r s : LosingRow) (rs ss : List LosingRow) (a : Apart x (r ∷ rs)) (b : Apart y (s ∷ ss)) where
  not_sooner : (lies_in_one (r ∷ rs) r.first ≡ lies_in_one (s ∷ ss) r.first) → s.first ≤ r.first
  unfolding Apart
  not_sooner e = elim (cases_lt r.first s.first) [
    | inl lt ↦ absurd (both_ways _ (earlier y s ss b r.first lt) (sym e ∙ within x r rs a r.first (omega arith) a.1))
    | inr le ↦ le
  ]

  not_longer : s.first ≤ r.first → (lies_in_one (r ∷ rs) (suc s.last) ≡ lies_in_one (s ∷ ss) (suc s.last)) → r.first ≤ suc s.last → r.last ≤ s.last
  not_longer f e le = elim (cases_lt s.last r.last) [
    | inl lt ↦ absurd (both_ways _ (just_after y s ss b) (sym e ∙ within x r rs a (suc s.last) le (omega (arith, lt))))
    | inr not ↦ not
  ]

pub only : (x : ℕ) (rs ss : List LosingRow) → Apart x rs → Apart x ss → ((g : ℕ) → x ≤ g → lies_in_one rs g ≡ lies_in_one ss g) → rs ≡ ss
unfolding Apart lies_in_one
only x [] [] a b e = refl
only x [] (s ∷ ss) a b e = absurd (both_ways false refl (e s.first b.0 ∙ within x s ss b s.first (omega arith) b.1))
only x (r ∷ rs) [] a b e = absurd (both_ways false refl (sym (e r.first a.0) ∙ within x r rs a r.first (omega arith) a.1))
only x (r ∷ rs) (s ∷ ss) a b e =
    let p = not_sooner x x r s rs ss a b (e r.first a.0) in
    let q = not_sooner x x s r ss rs b a (sym (e s.first b.0)) in
    let u = not_longer x x r s rs ss a b p (e (suc s.last) (omega (arith, b.0, b.1))) (omega (arith, b.1, q)) in
    let v = not_longer x x s r ss rs b a q (sym (e (suc r.last) (omega (arith, a.0, a.1)))) (omega (arith, a.1, p)) in
    let f : r.first ≡ s.first = omega (arith, p, q) in
    let l : r.last ≡ s.last = omega (arith, u, v) in
    let t = only (r.last + 2) rs ss a.2 (rw l b.2) (λ g lo. sym (after x r rs a g (omega arith)) ∙ e g (omega (arith, lo, a.0, a.1)) ∙ after x s ss b g (omega (arith, lo, l))) in
    ap (λ (n : ℕ). record { first = n; last = r.last } ∷ rs) f ∙ ap (λ (n : ℕ). record { first = s.first; last = n } ∷ rs) l ∙ ap (λ (ts : List LosingRow). s ∷ ts) t

pub only_rows : (test : ℕ → Bool) (e : ℕ) (rs ss : List LosingRow) → RowsOf test e rs → RowsOf test e ss → rs ≡ ss
only_rows test e rs ss i j = only 0 rs ss i.apart j.apart (λ g lo. i.exact g ∙ sym (j.exact g))

-- ---- trying finds them

-- the rows of [x, e)
pub record Found (test : ℕ → Bool) (x e : ℕ) (rs : List LosingRow) : Type 0 where
  pub apart : Apart x rs
  pub exact : (g : ℕ) → x ≤ g → lies_in_one rs g ≡ (ltb g e && test g)

module _ (test : ℕ → Bool) (x e : ℕ) (lt : x < e) where
  by_rest : (rs : List LosingRow) → test x ≡ false → Found test (suc x) e rs → Found test x e rs
  by_rest rs u i =
      record {
        apart = apart_from x (suc x) rs (omega arith) i.apart;
        exact = λ g lo. elim (cases_eq g x) [
          | inl same ↦ rw (same, u, none_before (suc x) rs x i.apart (omega arith)) (grind arith)
          | inr other ↦ i.exact g (omega (arith, lo))
        ];
      }

  -- x itself, and those behind it
  more : (r : LosingRow) (rs ss : List LosingRow) → test x ≡ true → Found test (suc x) e ss → Apart x (r ∷ rs) → r.first ≡ x →
      ((g : ℕ) → suc x ≤ g → lies_in_one (r ∷ rs) g ≡ lies_in_one ss g) → Found test x e (r ∷ rs)
  unfolding Apart
  more r rs ss t i a f same =
      record {
        apart = a;
        exact = λ g lo. elim (cases_eq g x) [
          | inl here ↦ within x r rs a g (omega (arith, f)) (omega (arith, f, here)) ∙ sym (and_from _ _ (lt-ltb g e (omega arith)) (rw here t))
          | inr other ↦ same g (omega (arith, lo)) ∙ i.exact g (omega (arith, lo))
        ];
      }

  one_more : (rs : List LosingRow) → test x ≡ true → Found test (suc x) e rs → Found test x e (with_one x rs)
  unfolding Apart lies_in_one
  one_more [] t i =
      let here : LosingRow = record { first = x; last = x } in
      more here [] [] t i (omega arith, omega arith, tt) refl (λ g lo. after x here [] (omega arith, omega arith, tt) g lo)
  one_more (r ∷ rs) t i =
      let here : LosingRow = record { first = x; last = x } in
      let longer : LosingRow = record { first = x; last = r.last } in
      elim (cases_eq r.first (suc x)) [
        | inl next ↦
            let a : Apart x (longer ∷ rs) = (omega arith, omega (arith, i.apart.0, i.apart.1), i.apart.2) in
            rw (eq-eqb _ _ next)
            (more longer rs (r ∷ rs) t i a refl (λ g lo. let l : lies_in longer g ≡ lies_in r g = grind (arith, lo, next) in rw l refl))
        | inr apart ↦
            let a : Apart x (here ∷ (r ∷ rs)) = (omega arith, omega arith, (omega (arith, i.apart.0, apart), i.apart.1, i.apart.2)) in
            rw (ne_eqb _ _ apart) (more here (r ∷ rs) (r ∷ rs) t i a refl (λ g lo. after x here (r ∷ rs) a g lo))
      ]

found : (test : ℕ → Bool) (n x e : ℕ) → e ≡ x + n → Found test x e (rows_that test n x)
unfolding rows_that lies_in_one Apart
found test zero x e s = record { apart = tt; exact = λ g lo. grind (arith, lo, s) }
found test (suc n) x e s =
    let i = found test n (suc x) e (omega arith) in
    elim (cases_Bool (test x)) [
      | inl t ↦ rw t (one_more test x e (omega arith) (rows_that test n (suc x)) t i)
      | inr u ↦ rw u (by_rest test x e (omega arith) (rows_that test n (suc x)) u i)
    ]

pub losing_found : (rs : List Rule) (b : ℕ) → LosingRows rs b (losing_rows rs b)
unfolding losing_rows
losing_found rs b = let i = found (loses rs b) (suc b) 0 (suc b) (omega arith) in record { apart = i.apart; exact = λ g. i.exact g (omega arith) }

-- ---- the row that is told

-- the first row from g on: what lies before it, from g on, and just after it lies in none
abbrev First : List LosingRow → ℕ → Option LosingRow → Type 0
First rs g None = (k : ℕ) → g ≤ k → lies_in_one rs k ≡ false
First rs g (Some r) = (g ≤ r.first) × (r.first ≤ r.last) × ((k : ℕ) → r.first ≤ k → k ≤ r.last → lies_in_one rs k ≡ true)
    × ((k : ℕ) → g ≤ k → k < r.first → lies_in_one rs k ≡ false) × (lies_in_one rs (suc r.last) ≡ false)

module _ (x : ℕ) (r : LosingRow) (rs : List LosingRow) (a : Apart x (r ∷ rs)) (g : ℕ) where
  -- one that ends before g is none of it
  later : r.last < g → (o : Option LosingRow) → First rs g o → First (r ∷ rs) g o
  later lt None i = λ k lo. after x r rs a k (omega (arith, lo)) ∙ i k lo
  later lt (Some s) i = (
    i.0,
    i.1,
    λ k lo hi. after x r rs a k (omega (arith, lo, i.0)) ∙ i.2 k lo hi,
    λ k lo hi. after x r rs a k (omega (arith, lo)) ∙ i.3 k lo hi,
    after x r rs a (suc s.last) (omega (arith, i.0, i.1)) ∙ i.4,
  )

  here : g ≤ r.last → First (r ∷ rs) g (Some (record { first = greater g r.first; last = r.last }))
  unfolding Apart
  here le = (
    grind arith,
    grind (arith, le, a.1),
    λ k lo hi. within x r rs a k (grind (arith, lo)) hi,
    λ k lo hi. earlier x r rs a k (grind (arith, lo, hi)),
    just_after x r rs a,
  )

first_from : (x : ℕ) (rs : List LosingRow) (g : ℕ) → Apart x rs → First rs g (first_row_from rs g)
unfolding first_row_from lies_in_one Apart
first_from x [] g a = λ k lo. refl
first_from x (r ∷ rs) g a =
    elim (cases_Bool (leb g r.last)) [
      | inl t ↦ rw t (here x r rs a g (leb-true _ _ t))
      | inr u ↦ rw u (later x r rs a g (leb-false _ _ u) (first_row_from rs g) (first_from (r.last + 2) rs g a.2))
    ]

-- if of the earnings from g on those lie in the rows who lose
module _ (rs : List Rule) (b g : ℕ) (rows : List LosingRow) (exact : (k : ℕ) → g ≤ k → lies_in_one rows k ≡ (ltb k (suc b) && loses rs b k)) where
  told_by : (k : ℕ) → g ≤ k → k ≤ b → loses rs b k ≡ lies_in_one rows k
  told_by k lo hi = let t : ltb k (suc b) ≡ true = lt-ltb _ _ (omega arith) in sym (exact k lo ∙ rw t refl)

  below : (k : ℕ) → g ≤ k → lies_in_one rows k ≡ true → k < b
  below k lo t =
      let p = and_parts (ltb k (suc b)) (loses rs b k) (sym (exact k lo) ∙ t) in
      elim (cases_eq k b) [
        | inl same ↦ absurd (both_ways (loses rs b b) (at_bound rs b) (rw same at p.1))
        | inr other ↦ omega (arith, ltb-true _ _ p.0)
      ]

  row_of_first : (o : Option LosingRow) → First rows g o → RowTold rs b g (row_told o)
  row_of_first None f = inl (refl, λ k lo hi. told_by k lo hi ∙ f k lo)
  row_of_first (Some r) f =
      let lt = below r.last (omega (arith, f.0, f.1)) (f.2 r.last f.1 (omega arith)) in
      inr (
        r.first,
        r.last,
        refl,
        record {
          from_asked = f.0;
          in_order = f.1;
          below_bound = lt;
          all_lose = λ k lo hi. told_by k (omega (arith, lo, f.0)) (omega (arith, lt, hi)) ∙ f.2 k lo hi;
          none_before = λ k lo hi. told_by k lo (omega (arith, lt, f.1, hi)) ∙ f.3 k lo hi;
          not_after = told_by (suc r.last) (omega (arith, f.0, f.1)) lt ∙ f.4;
        },
      )

-- no two answers tell of one
module _ (rs : List Rule) (b g p q s t : ℕ) (i : FirstRow rs b g p q) (j : FirstRow rs b g s t) where
  no_sooner : p ≤ s
  no_sooner = elim (cases_lt s p) [ inl lt ↦ absurd (both_ways _ (i.none_before s j.from_asked lt) (j.all_lose s (omega arith) j.in_order)) | inr le ↦ le ]

  no_longer : q ≤ t
  no_longer = elim (cases_lt t q) [ inl lt ↦ absurd (both_ways _ j.not_after (i.all_lose (suc t) (omega (arith, no_sooner, j.in_order)) lt)) | inr le ↦ le ]

pub one_row : (rs : List Rule) (b g : ℕ) (a c : Answer) → RowTold rs b g a → RowTold rs b g c → a ≡ c
one_row rs b g a c (inl i) (inl j) = i.0 ∙ sym j.0
one_row rs b g a c (inl i) (inr (s, t, f, j)) = absurd (both_ways _ (i.1 s j.from_asked (omega (arith, j.in_order, j.below_bound))) (j.all_lose s (omega arith) j.in_order))
one_row rs b g a c (inr (p, q, e, i)) (inl j) = absurd (both_ways _ (j.1 p i.from_asked (omega (arith, i.in_order, i.below_bound))) (i.all_lose p (omega arith) i.in_order))
one_row rs b g a c (inr (p, q, e, i)) (inr (s, t, f, j)) =
    let u : p ≡ s = omega (arith, no_sooner rs b g p q s t i j, no_sooner rs b g s t p q j i) in
    let v : q ≡ t = omega (arith, no_longer rs b g p q s t i j, no_longer rs b g s t p q j i) in
    e ∙ ap (λ (n : ℕ). two (suc n) (suc q)) u ∙ ap (λ (n : ℕ). two (suc s) (suc n)) v ∙ sym f

module _ (l : Limits) (rs : List Rule) (g : ℕ) where
  abbrev pub From : ℕ → List LosingRow → Type 0
  From x rows = Found (loses rs l.bound) x (suc l.bound) rows

  told_first : (rows : List LosingRow) → ((k : ℕ) → g ≤ k → lies_in_one rows k ≡ (ltb k (suc l.bound) && loses rs l.bound k)) → (o : Option LosingRow) → First rows g o →
      row_told o ≡ told l rs (next_row g)
  told_first rows exact o f = one_row rs l.bound g _ _ (row_of_first rs l.bound g rows exact o f) (row_stands l rs g)

  pub row_is_first : (rows : List LosingRow) → LosingRows rs l.bound rows → row_told (first_row_from rows g) ≡ told l rs (next_row g)
  row_is_first rows i = told_first rows (λ k lo. i.exact k) (first_row_from rows g) (first_from 0 rows g i.apart)

  -- of rows from g on the first is told, and the others are those from one past its last on
  pub none_told : From g [] → told l rs (next_row g) ≡ row_told None
  unfolding lies_in_one
  none_told i = sym (told_first [] i.exact None (λ k lo. refl))

  module _ (r : LosingRow) (rows : List LosingRow) (i : From g (r ∷ rows)) where
    pub first_told : told l rs (next_row g) ≡ row_told (Some r)
    unfolding Apart
    first_told = sym (told_first (r ∷ rows) i.exact (Some r) (i.apart.0, i.apart.1, within g r rows i.apart, λ k lo hi. earlier g r rows i.apart k hi, just_after g r rows i.apart))

    pub first_below : r.last < l.bound
    unfolding Apart
    first_below = below rs l.bound g (r ∷ rows) i.exact r.last (omega (arith, i.apart.0, i.apart.1)) (within g r rows i.apart r.last i.apart.1 (omega arith))

    pub others : From (suc r.last) rows
    unfolding Apart
    others =
        record {
          apart = apart_from (suc r.last) (r.last + 2) rows (omega arith) i.apart.2;
          exact = λ k lo. sym (after g r rows i.apart k lo) ∙ i.exact k (omega (arith, lo, i.apart.0, i.apart.1));
        }
