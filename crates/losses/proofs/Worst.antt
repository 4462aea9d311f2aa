-- The most that is lost: what trying finds, what no other number is, on one line, and line by line down the table.
use Rattle.std.proofs.Common.{◌≡◌, ℕ, zero, suc, ◌+◌, ◌-◌, ◌<◌, ◌≤◌, leb, List, ℤ, pos, negsuc, ◌-ℤ◌, ◌≤ℤ◌, ◌⊎◌, nat_abs, Some, None, Option, refl, ap, ◌∙◌, inl, inr, arith}
use lib.Signed.{lt_z}
use Rattle.std.specs.Int.{int_max, int_min}
use Rattle.std.proofs.lemmas.Int.{ints, int_max_is, int_min_is}
use Rattle.std.proofs.lemmas.Bool.{both_ways, cases_Bool, cases_eq, cases_lt, leb-true, ltb-true, lt-ltb}
use Rattle.raise.specs.declared.LosingRow.{LosingRow}
use Rattle.raise.specs.Rules.{Rule, lesser, loses}
use Rattle.raise.specs.Net.{net, Straight}
use Rattle.raise.specs.Lowest.{lesser_of, lowest_from, Lowest}
use Rattle.raise.specs.Rows.{greater}
use Rattle.raise.proofs.Lines.{rises, falls}
use Rattle.raise.proofs.Picks.{picked}
use Rattle.raise.proofs.Lows.{lowest_is}
use Rattle.raise.proofs.Search.{lost}
use Rattle.lowest.specs.declared.entries.Entry.{Entry}
use Rattle.lowest.specs.Table.{EntryOf}
use Rattle.losses.specs.Most.{part_on, fall_on, shortfall, greatest_over, loss, most_lost, MostOver, MostLost, NobodyIn, above_lowest, LossByLowest}

-- ---- the greatest by trying: no other is greater, and it is one of them, unless it is 0

pub greatest_bounds : (f : ℕ → ℕ) (n x g : ℕ) → x ≤ g → g < x + n → f g ≤ greatest_over f n x
unfolding greatest_over
greatest_bounds f zero x g lo hi = absurd (omega arith)
greatest_bounds f (suc n) x g lo hi =
    elim (cases_eq g x) [
      | inl same ↦ rw same (grind arith)
      | inr other ↦ let i = greatest_bounds f n (suc x) g (omega arith) (omega arith) in grind (arith, i)
    ]

pub greatest_reached : (f : ℕ → ℕ) (n x : ℕ) → 0 < greatest_over f n x → (g : ℕ) × (x ≤ g) × (g < x + n) × (f g ≡ greatest_over f n x)
unfolding greatest_over
greatest_reached f zero x some = absurd (omega arith)
greatest_reached f (suc n) x some =
    elim (cases_Bool (leb (f x) (greatest_over f n (suc x)))) [
      | inl t ↦ let i = greatest_reached f n (suc x) (rw t at some) in rw t (i.0, omega (arith, i.1), omega (arith, i.2), i.3)
      | inr u ↦ rw u (x, omega arith, omega arith, refl)
    ]

-- ---- of all losses

module _ (rs : List Rule) (b g : ℕ) where
  loss_bounds : (h : ℕ) → g < h → h ≤ b → (net rs g -ℤ net rs h) ≤ℤ pos (loss rs b g)
  loss_bounds h lo hi = let i = greatest_bounds (shortfall rs g) (b - g) (suc g) h (omega arith) (omega arith) in omega (arith, ints, i)

  loss_reached : 0 < loss rs b g → (h : ℕ) × (g < h) × (h ≤ b) × ((net rs g -ℤ net rs h) ≡ pos (loss rs b g))
  loss_reached some =
      let i = greatest_reached (shortfall rs g) (b - g) (suc g) some in
      (i.0, omega (arith, i.1), omega (arith, i.1, i.2), omega (arith, ints, i.3, some))

  by_lowest : (m : Option ℤ) → Lowest (net rs) (suc g) (suc b) m → pos (loss rs b g) ≡ above_lowest (net rs g) m
  unfolding greatest_over
  by_lowest None l = let z : b - g ≡ 0 = omega arith in rw z refl
  by_lowest (Some m) l =
      let i = l.1 in
      let low = loss_bounds i.0 (omega (arith, i.1)) (omega (arith, i.2)) in
      let c = int_max_is (net rs g -ℤ m) (pos 0) in
      elim (cases_eq (loss rs b g) 0) [
        | inl none ↦ omega (arith, ints, c, low, i.3, none)
        | inr some ↦
            let k = loss_reached (omega arith) in
            let high = l.0 k.0 (omega (arith, k.1)) (omega (arith, k.2)) in
            omega (arith, ints, c, low, i.3, k.3, high)
      ]

pub loss_by_lowest : (rs : List Rule) (b : ℕ) → LossByLowest rs b
loss_by_lowest rs b g = by_lowest rs b g (lowest_from rs b (suc g)) (lowest_is rs b (suc g))

pub most_is : (rs : List Rule) (b : ℕ) (r : LosingRow) → MostLost rs b r (most_lost rs b r)
unfolding most_lost
most_is rs b r =
    record {
      bounds = λ g h lo hi above within.
          let i = greatest_bounds (loss rs b) (suc r.last - r.first) r.first g lo (omega arith) in
          let j = loss_bounds rs b g h above within in
          omega (arith, ints, i, j);
      reached = λ some.
          let i = greatest_reached (loss rs b) (suc r.last - r.first) r.first some in
          let k = loss_reached rs b i.0 (omega (arith, i.3, some)) in
          (i.0, k.0, i.1, omega (arith, i.1, i.2), k.1, k.2, k.3 ∙ ap pos i.3);
    }

-- no two numbers are it
no_more : (f : ℕ → ℤ) (b x e m n : ℕ) → MostOver f b x e m → MostOver f b x e n → m ≤ n
no_more f b x e m n i j =
    elim (cases_eq m 0) [
      | inl none ↦ omega arith
      | inr some ↦ let k = i.reached (omega arith) in let l = j.bounds k.0 k.1 k.2 k.3 k.4 k.5 in omega (arith, ints, k.6, l)
    ]

pub one_most : (f : ℕ → ℤ) (b x e m n : ℕ) → MostOver f b x e m → MostOver f b x e n → m ≡ n
one_most f b x e m n i j = omega (arith, no_more f b x e m n i j, no_more f b x e n m j i)

pub is_the_most : (rs : List Rule) (b : ℕ) (r : LosingRow) (n : ℕ) → MostLost rs b r n → n ≡ most_lost rs b r
is_the_most rs b r n i = one_most (net rs) b r.first (suc r.last) n (most_lost rs b r) i (most_is rs b r)

-- it is 0 just where nobody loses
pub nobody : (rs : List Rule) (b : ℕ) (r : LosingRow) (n : ℕ) → MostLost rs b r n → (n ≡ 0 → NobodyIn rs b r) × (NobodyIn rs b r → n ≡ 0)
nobody rs b r n i = (
  λ z g lo hi. elim (cases_Bool (loses rs b g)) [
    | inr u ↦ u
    | inl t ↦
        let k = (lost rs b g).0 t in
        let l = i.bounds g k.0 lo (omega arith) k.1 k.2 in
        absurd (omega (arith, ints, z, l, ltb-true _ _ k.3))
  ],
  λ none. elim (cases_eq n 0) [
    | inl z ↦ z
    | inr some ↦
        let k = i.reached (omega arith) in
        absurd (both_ways (loses rs b k.0) (none k.0 k.2 (omega (arith, k.3))) ((lost rs b k.0).1 (k.1, k.4, k.5, lt-ltb _ _ (omega (arith, ints, k.6, some)))))
  ],
)

-- ---- on one line

-- of the earnings from x to y, on a line, and of what lies beyond
module _ (f : ℕ → ℤ) (b from to : ℕ) (v d : ℤ) (s : Straight f from to v d) (within : to ≤ suc b) (x y : ℕ) (lo : from ≤ x) (le : x ≤ y) (hi : y < to) where
  abbrev top : ℤ
  top = int_max (f x) (f y)

  abbrev end : ℤ
  end = int_min (f y) (f (to - 1))

  above : (g h : ℕ) → from ≤ g → g ≤ h → h < to → (r : ℕ) → d ≡ pos r → f g ≤ℤ f h
  above g h low up high r c = rw (s g low (omega arith), s h (omega arith) high, c) (rises from g h v r low up)

  below : (g h : ℕ) → from ≤ g → g ≤ h → h < to → (r : ℕ) → d ≡ negsuc r → f h ≤ℤ f g
  below g h low up high r c = rw (s g low (omega arith), s h (omega arith) high, c) (falls from g h v r low up)

  -- if by so much the least is below the greatest, and the least is one of what lies beyond, or is the line's end
  module _ (low : ℤ) (n : ℕ) (under : low ≤ℤ end) (by : pos n ≡ (top -ℤ low)) (least : (h : ℕ) → to ≤ h → h < suc b → low ≤ℤ f h)
      (found : (low ≡ end) ⊎ ((h : ℕ) × (to ≤ h) × (h < suc b) × (f h ≡ low))) where
    bounds : (c : ℤ) → d ≡ c → (g h : ℕ) → x ≤ g → g < suc y → g < h → h ≤ b → (f g -ℤ f h) ≤ℤ pos n
    bounds (pos r) c g h a z up w =
        let i = above g y (omega arith) (omega arith) hi r c in
        elim (cases_lt h to) [
          | inl here ↦ let j = above g h (omega arith) (omega arith) here r c in omega (arith, ints, j)
          | inr past ↦ let j = least h past (omega arith) in omega (arith, ints, i, j, by, int_max_is (f x) (f y))
        ]
    bounds (negsuc r) c g h a z up w =
        let i = below x g lo a (omega arith) r c in
        elim (cases_lt h to) [
          | inl here ↦ let j = below h (to - 1) (omega arith) (omega arith) (omega arith) r c in omega (arith, ints, i, j, by, under, int_max_is (f x) (f y), int_min_is (f y) (f (to - 1)))
          | inr past ↦ let j = least h past (omega arith) in omega (arith, ints, i, j, by, int_max_is (f x) (f y))
        ]

    reached : (c : ℤ) → d ≡ c → 0 < n → (g : ℕ) × (h : ℕ) × (x ≤ g) × (g < suc y) × (g < h) × (h ≤ b) × ((f g -ℤ f h) ≡ pos n)
    reached (pos r) c some =
        let i = above x y lo le hi r c in
        let j = above y (to - 1) (omega arith) (omega arith) (omega arith) r c in
        elim found [
          | inl same ↦ absurd (omega (arith, ints, i, j, by, same, some, int_max_is (f x) (f y), int_min_is (f y) (f (to - 1))))
          | inr k ↦ (y, k.0, le, omega arith, omega (arith, k.1), omega (arith, k.2), omega (arith, ints, i, k.3, by, int_max_is (f x) (f y)))
        ]
    reached (negsuc r) c some =
        let i = below x y lo le hi r c in
        let j = below y (to - 1) (omega arith) (omega arith) (omega arith) r c in
        elim found [
          | inr k ↦ (x, k.0, omega arith, omega arith, omega (arith, k.1), omega (arith, k.2), omega (arith, ints, i, k.3, by, int_max_is (f x) (f y)))
          | inl same ↦
              elim (cases_lt x (to - 1)) [
                | inl less ↦ (x, to - 1, omega arith, omega arith, less, omega arith, omega (arith, ints, i, j, same, by, int_max_is (f x) (f y), int_min_is (f y) (f (to - 1))))
                | inr last ↦
                    let e : to - 1 ≡ x = omega arith in
                    let u : y ≡ x = omega arith in
                    absurd (some_not (ap f e) (ap f u) same)
              ]
        ]
      where
        some_not : f (to - 1) ≡ f x → f y ≡ f x → low ≡ end → ⊥
        some_not e u same = omega (arith, ints, e, u, same, by, some, int_max_is (f x) (f y), int_min_is (f y) (f (to - 1)))

    is_most : MostOver f b x (suc y) n
    is_most = record { bounds = bounds d refl; reached = reached d refl }

-- on a part of an entry's line
on_entry : (rs : List Rule) (b : ℕ) (e : Entry) → EntryOf rs b e → (x y : ℕ) → e.segment.from ≤ x → x ≤ y → y < e.segment.to → (n : ℕ) → n ≡ fall_on e x y → MostOver (net rs) b x (suc y) n
on_entry rs b e i x y lo le hi n a =
    let s = e.segment in
    let line = i.segment.straight in
    let end = int_min (net rs y) (net rs (s.to - 1)) in
    let p = line x lo (omega arith) in
    let q = line y (omega arith) hi in
    let z = line (s.to - 1) (omega arith) (omega arith) in
    let a' : n ≡ nat_abs (int_max (net rs x) (net rs y) -ℤ lesser_of end e.lowest_above) = rw (p, q, z) a in
    let o = int_max_is (net rs x) (net rs y) in
    let m = int_min_is (net rs y) (net rs (s.to - 1)) in
    let u = beyond end e.lowest_above i.lowest in
    let under = u.0 in
    is_most (net rs) b s.from s.to s.net s.slope line i.segment.ends.within x y lo le hi (lesser_of end e.lowest_above) n under (omega (arith, ints, a', o, m, under)) u.1 u.2
  where
    beyond : (end : ℤ) (m : Option ℤ) → Lowest (net rs) e.segment.to (suc b) m →
        (lesser_of end m ≤ℤ end) × ((h : ℕ) → e.segment.to ≤ h → h < suc b → lesser_of end m ≤ℤ net rs h) ×
        ((lesser_of end m ≡ end) ⊎ ((h : ℕ) × (e.segment.to ≤ h) × (h < suc b) × (net rs h ≡ lesser_of end m)))
    beyond end None h = (omega (arith, ints), λ k past within. absurd (omega arith), inl refl)
    beyond end (Some m) h =
        let i = h.1 in
        let k = int_min_is end m in (
          omega (arith, ints, k),
          λ g past within. let j = h.0 g past within in omega (arith, ints, j, k),
          elim (cases_Bool (lt_z m end)) [ inl t ↦ rw t (inr i) | inr u ↦ rw u (inl refl) ],
        )

part_is : (r p : LosingRow) (from to : ℕ) → from < to → Some p ≡ part_on r from to →
    (p.first ≡ greater from r.first) × (suc p.last ≡ lesser to (suc r.last)) × (from ≤ p.first) × (p.first ≤ p.last) × (p.last < to)
part_is r p from to some e =
    let k = picked _ _ _ e in
    let o = leb-true _ _ k.0 in
    let f : p.first ≡ greater from r.first = ap (λ (q : LosingRow). q.first) k.1 in
    let l : p.last ≡ lesser (to - 1) r.last = ap (λ (q : LosingRow). q.last) k.1 in
    (f, grind (arith, l, some), grind (arith, f), omega (arith, f, l, o), grind (arith, l, some))

-- of those of a row who are on it
pub on_row : (e : Entry) (r p : LosingRow) (n : ℕ) → e.segment.from < e.segment.to → Some p ≡ part_on r e.segment.from e.segment.to → n ≡ fall_on e p.first p.last →
    (rs : List Rule) (b : ℕ) → EntryOf rs b e → MostOver (net rs) b (greater e.segment.from r.first) (lesser e.segment.to (suc r.last)) n
on_row e r p n some here a rs b i = let k = part_is r p e.segment.from e.segment.to some here in rw (← k.0, ← k.1) (on_entry rs b e i p.first p.last k.2 k.3 k.4 n a)
