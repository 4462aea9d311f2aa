-- What the searches over all earnings find: who loses, the first of its kind, and from where on an earning is safe.
use Rattle.std.proofs.Common.{◌≡◌, ℕ, zero, suc, ◌+◌, ◌-◌, ◌<◌, ◌≤◌, Bool, true, false, not, ◌&&◌, ◌||◌, ltb, List, Decides, sym, refl, ap, ◌∙◌, inl, inr, arith}
use Rattle.std.proofs.lemmas.Bool.{both_ways, or_cases, or_parts, and_parts, and_cases, cases_eq, cases_lt, cases_Bool, not-true, not-false, ltb-true, ltb-false, lt-ltb}
use Rattle.raise.specs.Rules.{Rule, less_left, some_less, loses, first_that, all_as_much, safe_from}
use Rattle.raise.specs.Promise.{Shown, NeverLess, SafeFrom}
use Rattle.raise.specs.Laws.{LessAbove, Nobody, Rises, SafeOn, UnsafeOn, SafeTold}

-- ---- who loses

some_found : (rs : List Rule) (g n h : ℕ) → some_less rs g n h ≡ true → (k : ℕ) × (h ≤ k) × (k < h + n) × (less_left rs g k ≡ true)
unfolding some_less
some_found rs g zero h e = absurd (both_ways false refl e)
some_found rs g (suc n) h e =
    elim (or_cases (less_left rs g h) (some_less rs g n (suc h)) e) [
      | inl here ↦ (h, omega arith, omega arith, here)
      | inr later ↦ let i = some_found rs g n (suc h) later in (i.0, omega (arith, i.1), omega (arith, i.2), i.3)
    ]

none_found : (rs : List Rule) (g n h : ℕ) → some_less rs g n h ≡ false → (k : ℕ) → h ≤ k → k < h + n → less_left rs g k ≡ false
unfolding some_less
none_found rs g zero h e k lo hi = absurd (omega arith)
none_found rs g (suc n) h e k lo hi =
    let p = or_parts (less_left rs g h) (some_less rs g n (suc h)) e in
    elim (cases_eq h k) [
      | inl same ↦ rw (← same) p.0
      | inr other ↦ none_found rs g n (suc h) p.1 k (omega arith) (omega arith)
    ]

pub shown : Shown
shown rs b g = (
  λ e. let i = some_found rs g (b - g) (suc g) e in (i.0, omega (arith, i.1), omega (arith, i.2), i.3),
  λ e h lo hi. none_found rs g (b - g) (suc g) e h lo (omega arith),
)

pub lost : (rs : List Rule) (b g : ℕ) → Decides (loses rs b g) (LessAbove rs b g)
lost rs b g = (
  (shown rs b g).0,
  λ i. elim (cases_Bool (loses rs b g)) [
    | inl t ↦ t
    | inr u ↦ absurd (both_ways (less_left rs g i.0) ((shown rs b g).1 u i.0 i.1 i.2) i.3)
  ],
)

pub never_less : NeverLess
never_less rs b none g h lo hi =
    elim (cases_eq g h) [
      | inl same ↦ rw same (omega arith)
      | inr other ↦ ltb-false _ _ ((shown rs b g).1 (none g (omega arith)) h (omega arith) hi)
    ]

pub nobody_loses : (rs : List Rule) (b : ℕ) → Rises rs b → Nobody rs b
nobody_loses rs b up g le =
    elim (cases_Bool (loses rs b g)) [
      | inr none ↦ none
      | inl t ↦ let i = (shown rs b g).0 t in absurd (omega (arith, ltb-true _ _ i.3, up g i.0 (omega (arith, i.1)) i.2))
    ]

-- ---- the first that passes a test

pub first_found : (f : ℕ → Bool) (n g h : ℕ) → first_that f n g ≡ suc h → (g ≤ h) × (h < g + n) × (f h ≡ true) × ((j : ℕ) → g ≤ j → j < h → f j ≡ false)
unfolding first_that
first_found f zero g h e = absurd (omega arith)
first_found f (suc n) g h e =
    elim (cases_Bool (f g)) [
      | inl t ↦
          let s : suc g ≡ suc h = rw t at e in
          let s' : g ≡ h = omega arith in
          (omega arith, omega arith, rw (← s') t, λ j lo hi. absurd (omega arith))
      | inr u ↦
          let s : first_that f n (suc g) ≡ suc h = rw u at e in
          let i = first_found f n (suc g) h s in (
            omega (arith, i.0),
            omega (arith, i.1),
            i.2,
            λ j lo hi. elim (cases_eq g j) [ inl same ↦ rw (← same) u | inr other ↦ i.3 j (omega arith) hi ],
          )
    ]

pub none_that : (f : ℕ → Bool) (n g : ℕ) → first_that f n g ≡ 0 → (j : ℕ) → g ≤ j → j < g + n → f j ≡ false
unfolding first_that
none_that f zero g e j lo hi = absurd (omega arith)
none_that f (suc n) g e j lo hi =
    elim (cases_Bool (f g)) [
      | inl t ↦ let s : suc g ≡ 0 = rw t at e in absurd (omega arith)
      | inr u ↦
          let s : first_that f n (suc g) ≡ 0 = rw u at e in
          elim (cases_eq g j) [ inl same ↦ rw (← same) u | inr other ↦ none_that f n (suc g) s j (omega arith) (omega arith) ]
    ]

-- ---- safe earnings

-- "at least as much everywhere" is "not less somewhere"
pub not_less : (rs : List Rule) (g n h : ℕ) → all_as_much rs g n h ≡ not (some_less rs g n h)
unfolding all_as_much some_less
not_less rs g zero h = refl
not_less rs g (suc n) h = ap (λ t. not (less_left rs g h) && t) (not_less rs g n (suc h)) ∙ neither (less_left rs g h) (some_less rs g n (suc h))
  where
    neither : (x y : Bool) → (not x && not y) ≡ not (x || y)
    neither true y = refl
    neither false y = refl

module _ (rs : List Rule) (b g : ℕ) where
  is_safe : ℕ → Bool
  is_safe h = ltb g h && all_as_much rs g (suc b - h) h

  safe_means : (h : ℕ) → is_safe h ≡ true → (g < h) × SafeOn rs b g h
  unfolding is_safe
  safe_means h e =
      let p = and_parts (ltb g h) (all_as_much rs g (suc b - h) h) e in (
        ltb-true g h p.0,
        λ k lo hi. none_found rs g (suc b - h) h (not-true _ (sym (not_less rs g (suc b - h) h) ∙ p.1)) k lo (omega arith),
      )

  unsafe_means : (j : ℕ) → g < j → is_safe j ≡ false → UnsafeOn rs b g j
  unfolding is_safe
  unsafe_means j lo e =
      elim (and_cases (ltb g j) (all_as_much rs g (suc b - j) j) e) [
        | inl off ↦ absurd (both_ways (ltb g j) off (lt-ltb g j lo))
        | inr some ↦
            let i = some_found rs g (suc b - j) j (not-false _ (sym (not_less rs g (suc b - j) j) ∙ some)) in
            (i.0, i.1, omega (arith, i.1, i.2), i.3)
      ]

pub safe_told : (rs : List Rule) (b g : ℕ) → SafeTold rs b g (safe_from rs b g)
unfolding is_safe
safe_told rs b g = told (safe_from rs b g) refl
  where
    told : (n : ℕ) → safe_from rs b g ≡ n → SafeTold rs b g n
    told zero e = λ j lo hi. unsafe_means rs b g j lo (none_that (is_safe rs b g) (suc b - g) g e j (omega arith) (omega arith))
    told (suc h) e =
        let i = first_found (is_safe rs b g) (suc b - g) g h e in
        let s = safe_means rs b g h i.2 in
        (s.0, omega (arith, i.0, i.1), s.1, λ j lo hi. unsafe_means rs b g j lo (i.3 j (omega arith) hi))

pub safe_from_right : SafeFrom
safe_from_right rs b g h e = rw e at (safe_told rs b g)

-- no earning is both: safe from it on, and not
not_both : (rs : List Rule) (b g h : ℕ) → SafeOn rs b g h → UnsafeOn rs b g h → ⊥
not_both rs b g h safe not = both_ways (less_left rs g not.0) (safe not.0 not.1 not.2) not.3

pub one_safe : (rs : List Rule) (b g m n : ℕ) → SafeTold rs b g m → SafeTold rs b g n → m ≡ n
one_safe rs b g zero zero i j = refl
one_safe rs b g zero (suc k) i j = absurd (not_both rs b g k j.2 (i k j.0 j.1))
one_safe rs b g (suc h) zero i j = absurd (not_both rs b g h i.2 (j h i.0 i.1))
one_safe rs b g (suc h) (suc k) i j =
    elim (cases_eq h k) [
      | inl same ↦ ap suc same
      | inr other ↦
          elim (cases_lt h k) [
            | inl less ↦ absurd (not_both rs b g h i.2 (j.3 h i.0 less))
            | inr not ↦ absurd (not_both rs b g k j.2 (i.3 k j.0 (omega (arith, not, other))))
          ]
    ]

-- so what is told is what the search finds
pub told_is : (rs : List Rule) (b g n : ℕ) → SafeTold rs b g n → n ≡ safe_from rs b g
told_is rs b g n told = one_safe rs b g n (safe_from rs b g) told (safe_told rs b g)
