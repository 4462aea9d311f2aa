-- Where a loss shows. Net is straight between breakpoints, so from the larger earning at which a loss shows one goes along the
-- line that doesn't rise: up to just before a breakpoint or to the bound, or down to a breakpoint.
use Rattle.std.proofs.Common.{◌≡◌, ℕ, suc, ◌-◌, ◌<◌, ◌≤◌, true, false, ◌&&◌, ◌||◌, eqb, leb, ◌⊎◌, List, [], ◌∷◌, ℤ, pos, negsuc, ◌<ℤ◌, refl, ◌∙◌, inl, inr, arith}
use Rattle.std.proofs.lemmas.Int.{ints}
use Rattle.std.proofs.lemmas.Bool.{cases_lt, both_ways, or_cases, or_left, or_right, and_parts, and_from, le-leb, leb-true, eqb-true, eq-eqb, ltb-true}
use Rattle.raise.specs.Rules.{Rule, less_left, loses}
use Rattle.raise.specs.Promise.{borders, near, WhereToLook}
use Rattle.raise.specs.Net.{net, on_line, breakpoints, clear, among, SameOrPast, slope}
use Rattle.raise.specs.Laws.{SeenAt, SeenNear}
use Rattle.raise.proofs.Search.{shown}
use Rattle.raise.proofs.Lines.{rises, falls}
use Rattle.raise.proofs.Straight.{net_order, net_straight, breaks_by_borders}

-- ---- the stretch between two breakpoints around h

-- a stretch around h, no wider than [lo, hi), with none of xs inside, that ends where [lo, hi) does or at one of xs
pub record Around (xs : List ℕ) (lo hi h : ℕ) : Type 0 where
  pub from : ℕ
  pub to : ℕ
  pub begins : from ≤ h
  pub ends : h < to
  pub within : to ≤ hi
  pub inside : clear xs from to ≡ true
  pub left_end : (from ≡ lo) ⊎ (among xs from ≡ true)
  pub right_end : (to ≡ hi) ⊎ (among xs to ≡ true)

pub narrower : (xs : List ℕ) (from to from' to' : ℕ) → from ≤ from' → to' ≤ to → clear xs from to ≡ true → clear xs from' to' ≡ true
unfolding clear
narrower [] from to from' to' a b c = refl
narrower (x ∷ xs) from to from' to' a b c =
    let p = and_parts (leb x from || leb to x) (clear xs from to) c in
    and_from _ _
    (elim (or_cases (leb x from) (leb to x) p.0) [
      | inl under ↦ or_left (leb x from') (leb to' x) (le-leb _ _ (omega (arith, leb-true _ _ under)))
      | inr above ↦ or_right (leb x from') (leb to' x) (le-leb _ _ (omega (arith, leb-true _ _ above)))
    ])
    (narrower xs from to from' to' a b p.1)

-- no point is inside a clear stretch
pub outside : (ys : List ℕ) (from to y : ℕ) → clear ys from to ≡ true → among ys y ≡ true → from < y → y < to → ⊥
unfolding clear among
outside [] from to y c a lo hi = absurd (let e : ◌≡◌ {A = ℕ} 0 1 = cc in omega arith)
outside (z ∷ ys) from to y c a lo hi =
    let p = and_parts (leb z from || leb to z) (clear ys from to) c in
    elim (or_cases (eqb z y) (among ys y) a) [
      | inl same ↦
          let e : z ≡ y = eqb-true z y same in
          elim (or_cases (leb z from) (leb to z) p.0) [ inl under ↦ absurd (omega (arith, leb-true _ _ under)) | inr past ↦ absurd (omega (arith, leb-true _ _ past)) ]
      | inr later ↦ outside ys from to y p.1 later lo hi
    ]

-- one more of them: kept as it is if that one is not inside, and cut there if it is
module _ (x : ℕ) (xs : List ℕ) (lo hi h : ℕ) (i : Around xs lo hi h) where
  more : (y z : ℕ) → (y ≡ z) ⊎ (among xs y ≡ true) → (y ≡ z) ⊎ (among (x ∷ xs) y ≡ true)
  unfolding among
  more y z (inl same) = inl same
  more y z (inr in_xs) = inr (or_right (eqb x y) _ in_xs)

  itself : among (x ∷ xs) x ≡ true
  unfolding among
  itself = or_left (eqb x x) _ (eq-eqb x x refl)

  kept : (leb x i.from || leb i.to x) ≡ true → Around (x ∷ xs) lo hi h
  unfolding clear
  kept t =
      record {
        from = i.from;
        to = i.to;
        begins = i.begins;
        ends = i.ends;
        within = i.within;
        inside = and_from _ _ t i.inside;
        left_end = more _ _ i.left_end;
        right_end = more _ _ i.right_end;
      }

  cut : i.from < x → x < i.to → Around (x ∷ xs) lo hi h
  unfolding clear
  cut after before =
      elim (cases_lt h x) [
        | inl higher ↦
            record {
              from = i.from;
              to = x;
              begins = i.begins;
              ends = higher;
              within = omega (arith, i.within);
              inside = and_from _ _ (or_right (leb x i.from) _ (le-leb x x (omega arith))) (narrower xs i.from i.to i.from x (omega arith) (omega arith) i.inside);
              left_end = more _ _ i.left_end;
              right_end = inr itself;
            }
        | inr lower ↦
            record {
              from = x;
              to = i.to;
              begins = lower;
              ends = i.ends;
              within = i.within;
              inside = and_from _ _ (or_left (leb x x) _ (le-leb x x (omega arith))) (narrower xs i.from i.to x i.to (omega arith) (omega arith) i.inside);
              left_end = inr itself;
              right_end = more _ _ i.right_end;
            }
      ]

  one_more : Around (x ∷ xs) lo hi h
  one_more =
      elim (cases_lt i.from x) [
        | inr under ↦ kept (or_left (leb x i.from) _ (le-leb _ _ under))
        | inl after ↦ elim (cases_lt x i.to) [ inr above ↦ kept (or_right (leb x i.from) _ (le-leb _ _ above)) | inl before ↦ cut after before ]
      ]

pub around : (xs : List ℕ) (lo hi h : ℕ) → lo ≤ h → h < hi → Around xs lo hi h
unfolding clear
around [] lo hi h a b = record { from = lo; to = hi; begins = a; ends = b; within = omega arith; inside = refl; left_end = inl refl; right_end = inl refl }
around (x ∷ xs) lo hi h a b = one_more x xs lo hi h (around xs lo hi h a b)

-- ---- along the line

module _ (rs : List Rule) (b g : ℕ) where
  abbrev Seen : Type 0
  Seen = SeenAt (breakpoints rs) rs b g

  less : (h : ℕ) → net rs h <ℤ net rs g → less_left rs g h ≡ true
  less h l = net_order rs g h ∙ grind (arith, ints)

  module _ (h : ℕ) (lo : g < h) (hi : h ≤ b) (l : net rs h <ℤ net rs g) (s : Around (breakpoints rs) 0 (suc b) h) where
    v : ℤ
    v = net rs s.from

    on : (d : ℤ) → slope rs s.from ≡ d → (k : ℕ) → s.from ≤ k → k < s.to → net rs k ≡ on_line s.from v d k
    unfolding v
    on d e k a z = rw (← e) (net_straight rs s.from s.to s.inside k a z)

    -- down to where the line begins; were that not above g, the line would fall from g to h
    rising : (r : ℕ) → slope rs s.from ≡ pos r → Seen
    rising r e =
        let at_h = on (pos r) e h s.begins s.ends in
        elim (cases_lt g s.from) [
          | inl above ↦
              let at_from = on (pos r) e s.from (omega arith) (omega (arith, s.begins, s.ends)) in
              let y = rises s.from s.from h v r (omega arith) s.begins in (
                s.from,
                above,
                omega (arith, s.begins),
                less s.from (omega (arith, ints)),
                inl (inl (elim s.left_end [ inl none ↦ absurd (omega arith) | inr at ↦ at ])),
              )
          | inr under ↦
              let at_g = on (pos r) e g under (omega (arith, s.ends)) in
              let y = rises s.from g h v r under (omega arith) in
              absurd (omega (arith, ints))
        ]

    -- up to the last of the line
    falling : (r : ℕ) → slope rs s.from ≡ negsuc r → Seen
    falling r e =
        let at_h = on (negsuc r) e h s.begins s.ends in
        let last = s.to - 1 in
        let at_last = on (negsuc r) e last (omega (arith, s.begins, s.ends)) (omega (arith, s.ends)) in
        let y = falls s.from h last v r s.begins (omega (arith, s.ends)) in
        let next : s.to ≡ suc last = omega (arith, s.ends) in (
          last,
          omega (arith, s.ends),
          omega (arith, s.within),
          less last (omega (arith, ints)),
          elim s.right_end [ inl end ↦ inr (omega arith) | inr at ↦ inl (inr (rw (← next) at)) ],
        )

    along : (d : ℤ) → slope rs s.from ≡ d → Seen
    along (pos r) e = rising r e
    along (negsuc r) e = falling r e

pub seen_at : (rs : List Rule) (b g : ℕ) → loses rs b g ≡ true → SeenAt (breakpoints rs) rs b g
seen_at rs b g lost =
    let i = (shown rs b g).0 lost in
    let h = i.0 in
    let l : net rs h <ℤ net rs g = omega (arith, ints, ltb-true _ _ i.3) in
    along rs b g h i.1 i.2 l (around (breakpoints rs) 0 (suc b) h (omega arith) (omega (arith, i.2))) (slope rs _) refl

-- ---- near a border

near_past : (xs ys : List ℕ) (x h : ℕ) → SameOrPast xs ys → among xs x ≡ true → (x ≡ h) ⊎ (x ≡ suc h) → near ys h ≡ true
unfolding SameOrPast among near
near_past [] [] x h m a e = absurd (both_ways false refl a)
near_past [] (y ∷ ys) x h m a e = absurd m
near_past (z ∷ xs) [] x h m a e = absurd m
near_past (z ∷ xs) (y ∷ ys) x h m a e =
    elim (or_cases (eqb z x) (among xs x) a) [
      | inl here ↦ or_left (leb y (suc h) && leb h (suc y)) _ (beside m.0 (eqb-true z x here) e)
      | inr later ↦ or_right (leb y (suc h) && leb h (suc y)) _ (near_past xs ys x h m.1 later e)
    ]
  where
    near_by : y ≤ suc h → h ≤ suc y → (leb y (suc h) && leb h (suc y)) ≡ true
    near_by p q = and_from (leb y (suc h)) (leb h (suc y)) (le-leb y (suc h) p) (le-leb h (suc y) q)

    beside : (z ≡ y) ⊎ (z ≡ suc y) → z ≡ x → (x ≡ h) ⊎ (x ≡ suc h) → (leb y (suc h) && leb h (suc y)) ≡ true
    beside (inl p) q (inl r) = near_by (omega arith) (omega arith)
    beside (inl p) q (inr r) = near_by (omega arith) (omega arith)
    beside (inr p) q (inl r) = near_by (omega arith) (omega arith)
    beside (inr p) q (inr r) = near_by (omega arith) (omega arith)

pub seen_near : (rs : List Rule) (b g : ℕ) → loses rs b g ≡ true → SeenNear (borders rs) rs b g
seen_near rs b g lost =
    let i = seen_at rs b g lost in
    let h = i.0 in
    let m = breaks_by_borders rs in (
      h,
      i.1,
      i.2,
      i.3,
      elim i.4 [
        | inl at ↦ inl (elim at [ inl here ↦ near_past _ _ h h m here (inl refl) | inr next ↦ near_past _ _ (suc h) h m next (inr refl) ])
        | inr end ↦ inr end
      ],
    )

pub where_to_look : WhereToLook
where_to_look rs b g lost =
    let i = seen_near rs b g lost in
    (i.0, i.1, i.2, i.3, elim i.4 [ inl at ↦ inl at | inr end ↦ inr (inl end) ])
