-- The segments of a book, one after the other: they cover every earning up to the bound once, and are few.
use Rattle.std.proofs.Common.{◌≡◌, ℕ, zero, suc, ◌+◌, ◌*◌, ◌<◌, ◌≤◌, true, false, ◌&&◌, eqb, ltb, leb, List, [], ◌∷◌, length, sym, refl, ap, ◌∙◌, inl, inr, arith}
use Rattle.std.specs.List.{AllByRecursion}
use Rattle.std.proofs.lemmas.Bool.{cases_Bool, or_cases, eqb-true, leb-true, leb-false, le-leb, cases_lt}
use Rattle.raise.specs.Rules.{pick, Rule, takes, gives, takes_sum, gives_sum, fades}
use Rattle.raise.specs.Net.{breakpoints, among}
use Rattle.raise.specs.Lowest.{NetLine}
use Rattle.raise.proofs.Straight.{net_straight}
use Rattle.book.specs.Held.{Within}
use Rattle.segments.specs.declared.lines.Segment.{Segment}
use Rattle.segments.specs.Points.{next_breakpoint}
use Rattle.segments.specs.Segments.{segment_at, SegmentOf, Sized, segments_from, segments, how_many_on, Chain, SegmentsCover}
use Rattle.segments.proofs.Paces.{net_small, slope_small}
use Rattle.segments.proofs.Points.{next_breakpoints}

-- ---- how many points are left above

above : List ℕ → ℕ → ℕ
above [] x = 0
above (y ∷ ys) x = pick (ltb x y) 1 0 + above ys x

no_more : (ys : List ℕ) (x z : ℕ) → x ≤ z → above ys z ≤ above ys x
unfolding above
no_more [] x z h = omega arith
no_more (y ∷ ys) x z h = let i = no_more ys x z h in grind arith

-- one less above a point that is above x
one_less : (ys : List ℕ) (x z : ℕ) → among ys z ≡ true → x < z → above ys z < above ys x
unfolding above among
one_less [] x z t h = absurd (let e : false ≡ true = t in let n : ◌≡◌ {A = ℕ} 0 1 = cc in omega arith)
one_less (y ∷ ys) x z t h =
    elim (or_cases (eqb y z) (among ys z) t) [
      | inl here ↦ let e : y ≡ z = eqb-true y z here in let i = no_more ys x z (omega arith) in grind arith
      | inr later ↦ let i = one_less ys x z later h in grind arith
    ]

two_more : (a b n : ℕ) (xs : List ℕ) → above xs 0 ≤ 2 * n → above (a ∷ (b ∷ xs)) 0 ≤ 2 * suc n
unfolding above
two_more a b n xs h = grind arith

at_most_two : (rs : List Rule) → above (breakpoints rs) 0 ≤ 2 * length rs
unfolding above breakpoints
at_most_two [] = omega arith
at_most_two (takes a b r ∷ rs) = two_more a b (length rs) (breakpoints rs) (at_most_two rs)
at_most_two (gives a b r ∷ rs) = two_more a b (length rs) (breakpoints rs) (at_most_two rs)
at_most_two (takes_sum a b s ∷ rs) = two_more a b (length rs) (breakpoints rs) (at_most_two rs)
at_most_two (gives_sum a b s ∷ rs) = two_more a b (length rs) (breakpoints rs) (at_most_two rs)
at_most_two (fades a zero s ∷ rs) = let i = at_most_two rs in grind arith
at_most_two (fades a (suc r) s ∷ rs) = two_more a _ (length rs) (breakpoints rs) (at_most_two rs)

-- a segment's line
pub segment_line : (rs : List Rule) (b : ℕ) (s : Segment) → SegmentOf rs b s → NetLine rs b s.from s.to s.net s.slope
segment_line rs b s i = record { some = i.ends.above; within = i.ends.within; straight = i.straight }

-- ---- the segments from x on

module _ (rs : List Rule) (b : ℕ) where
  pub segment_right : (g : ℕ) → g ≤ b → SegmentOf rs b (segment_at rs b g)
  segment_right g le = let n = next_breakpoints rs b g le in record { ends = n; straight = net_straight rs g (next_breakpoint rs b g) n.between }

  pub segment_sized : (g : ℕ) → g ≤ b → next_breakpoint rs b g ≤ 1000000001 → Within rs → Sized (segment_at rs b g)
  segment_sized g le low w =
      let s = segment_right g le in
      record { to = low; net = λ h a z. rw (← s.straight h a z) (net_small rs h w (omega (arith, low))); slope = slope_small rs g w }

  chain : (n x : ℕ) → x ≤ suc b → (x ≤ b → above (breakpoints rs) x < n) → Chain (segments_from rs b n x) x (suc b)
  unfolding segments_from Chain
  chain zero x le few = elim (cases_lt b x) [ inl past ↦ omega arith | inr more ↦ absurd (omega (arith, few more)) ]
  chain (suc n) x le few =
      elim (cases_Bool (leb x b)) [
        | inl t ↦
            let m = leb-true x b t in
            let y = next_breakpoints rs b x m in
            rw t (
              refl,
              chain n (next_breakpoint rs b x) y.within (λ h. elim y.reached [
                | inl point ↦ omega (arith, one_less (breakpoints rs) x (next_breakpoint rs b x) point y.above, few m)
                | inr end ↦ absurd (omega arith)
              ]),
            )
        | inr u ↦ rw u (omega (arith, leb-false x b u))
      ]

  pub each : (n x : ℕ) → AllByRecursion (SegmentOf rs b) (segments_from rs b n x)
  unfolding segments_from
  each zero x = tt
  each (suc n) x = elim (cases_Bool (leb x b)) [ inl t ↦ rw t (segment_right x (leb-true x b t), each n (next_breakpoint rs b x)) | inr u ↦ rw u tt ]

  pub each_sized : (n x : ℕ) → b ≤ 1000000000 → Within rs → AllByRecursion Sized (segments_from rs b n x)
  unfolding segments_from
  each_sized zero x low w = tt
  each_sized (suc n) x low w =
      elim (cases_Bool (leb x b)) [
        | inl t ↦
            let m = leb-true x b t in
            let y = next_breakpoints rs b x m in
            rw t (segment_sized x m (omega (arith, y.within)) w, each_sized n (next_breakpoint rs b x) low w)
        | inr u ↦ rw u tt
      ]

  -- fuel beyond the points that are left changes nothing
  enough : (n x : ℕ) → (x ≤ b → above (breakpoints rs) x < n) → segments_from rs b (suc n) x ≡ segments_from rs b n x
  unfolding segments_from
  enough zero x few = elim (cases_Bool (leb x b)) [ inl t ↦ absurd (omega (arith, few (leb-true x b t))) | inr u ↦ rw u refl ]
  enough (suc n) x few =
      elim (cases_Bool (leb x b)) [
        | inl t ↦
            let m = leb-true x b t in
            let y = next_breakpoints rs b x m in
            let i = enough n (next_breakpoint rs b x) (λ h. elim y.reached [
              | inl point ↦ omega (arith, one_less (breakpoints rs) x (next_breakpoint rs b x) point y.above, few m)
              | inr end ↦ absurd (omega arith)
            ]) in
            rw t (ap (λ (ss : List Segment). segment_at rs b x ∷ ss) i)
        | inr u ↦ rw u refl
      ]

  -- all segments from x on: the one there, and all from the next breakpoint on
  pub one_more : (x : ℕ) → x ≤ b → segments_from rs b (2 * length rs + 1) x ≡ segment_at rs b x ∷ segments_from rs b (2 * length rs + 1) (next_breakpoint rs b x)
  unfolding segments_from
  one_more x le =
      let n = 2 * length rs in
      let z : n + 1 ≡ suc n = omega arith in
      let t : leb x b ≡ true = le-leb x b le in
      let y = next_breakpoints rs b x le in
      let i = enough n (next_breakpoint rs b x) (λ h. elim y.reached [
        | inl point ↦ omega (arith, one_less (breakpoints rs) x (next_breakpoint rs b x) point y.above, no_more (breakpoints rs) 0 x (omega arith), at_most_two rs)
        | inr end ↦ absurd (omega arith)
      ]) in
      ap (λ (k : ℕ). segments_from rs b k x) z ∙ rw t (ap (λ (ss : List Segment). segment_at rs b x ∷ ss) (sym i)) ∙ ap (λ (k : ℕ). segment_at rs b x ∷ segments_from rs b k (next_breakpoint rs b x)) (sym z)

  pub at_most : (n x : ℕ) → length (segments_from rs b n x) ≤ n
  unfolding segments_from
  at_most zero x = omega arith
  at_most (suc n) x = elim (cases_Bool (leb x b)) [ inl t ↦ rw t (omega (arith, at_most n (next_breakpoint rs b x))) | inr u ↦ rw u (omega arith) ]

  -- ---- each earning lies on one

  forward : (ss : List Segment) (x e : ℕ) → Chain ss x e → AllByRecursion (SegmentOf rs b) ss → x ≤ e
  unfolding Chain
  forward [] x e c a = omega arith
  forward (s ∷ ss) x e c a = omega (arith, c.0, forward ss s.to e c.1 a.1, a.0.ends.above)

  counted : (ss : List Segment) (x e g : ℕ) → Chain ss x e → AllByRecursion (SegmentOf rs b) ss → how_many_on ss g ≡ pick (leb x g && ltb g e) 1 0
  unfolding Chain how_many_on
  counted [] x e g c a = grind arith
  counted (s ∷ ss) x e g c a =
      let i = counted ss s.to e g c.1 a.1 in
      let begins : s.from ≡ x = c.0 in
      let some : s.from < s.to = a.0.ends.above in
      let ends : s.to ≤ e = forward ss s.to e c.1 a.1 in
      grind arith

pub segments_cover : SegmentsCover
segments_cover rs b =
    let n = 2 * length rs + 1 in
    let c = chain rs b n 0 (omega arith) (λ h. omega (arith, at_most_two rs)) in
    let a = each rs b n 0 in
    record {
      once = λ g h. let i = counted rs b (segments rs b) 0 (suc b) g c a in grind arith;
      none_above = λ g h. let i = counted rs b (segments rs b) 0 (suc b) g c a in grind arith;
      in_order = c;
      each = a;
      few = at_most rs b n 0;
    }
