-- Parts of a line, and its words.
use Rattle.std.proofs.Common.{◌≡◌, ℕ, zero, suc, ap, ◌<◌, ◌≤◌, Bool, true, false, not, List, [], ◌∷◌, length, take, drop, get_or, sym, refl, ◌∙◌, arith, inl, inr}
use Rattle.std.specs.List.{filter, slice_split, onto_first}
use Rattle.std.proofs.lemmas.Bool.{cases_Bool}
use Rattle.text.specs.Words.{before, onward, is_blank, is_empty, words_in}

-- ---- up to the n-th byte nothing ends the part

module _ (test : ℕ → Bool) where
  pub cut_before : (bs : List ℕ) (n : ℕ) → ((i : ℕ) → i < n → test (get_or bs i 0) ≡ false) → n ≤ length bs → (n < length bs → test (get_or bs n 0) ≡ true) → take n bs ≡ before test bs
  cut_before [] n passes le ends = let z : n ≡ 0 = omega arith in rw z refl
  cut_before (c ∷ cs) zero passes le ends = rw (ends (omega arith)) refl
  cut_before (c ∷ cs) (suc n) passes le ends = rw (passes 0 (omega arith)) (ap (λ xs. c ∷ xs) (cut_before cs n (λ i l. passes (suc i) (omega arith)) (omega arith) (λ l. ends (omega arith))))

  pub cut_onward : (bs : List ℕ) (n : ℕ) → ((i : ℕ) → i < n → test (get_or bs i 0) ≡ false) → n ≤ length bs → (n < length bs → test (get_or bs n 0) ≡ true) → drop n bs ≡ onward test bs
  cut_onward [] n passes le ends = let z : n ≡ 0 = omega arith in rw z refl
  cut_onward (c ∷ cs) zero passes le ends = rw (ends (omega arith)) refl
  cut_onward (c ∷ cs) (suc n) passes le ends = rw (passes 0 (omega arith)) (cut_onward cs n (λ i l. passes (suc i) (omega arith)) (omega arith) (λ l. ends (omega arith)))

-- ---- words

-- the words behind a part without blanks begin where the next blank does, or end
abbrev behind : List ℕ → List (List ℕ)
behind [] = []
behind (c ∷ cs) = slice_split is_blank cs

first_piece : (bs : List ℕ) → slice_split is_blank bs ≡ before is_blank bs ∷ behind (onward is_blank bs)
first_piece [] = refl
first_piece (c ∷ cs) =
    elim (cases_Bool (is_blank c)) [
      | inl b ↦ rw b refl
      | inr b ↦ rw b (ap (onto_first c) (first_piece cs))
    ]

-- blanks in front are nothing to the words
pub skipped : (bs : List ℕ) → words_in bs ≡ words_in (onward (λ c. not (is_blank c)) bs)
unfolding words_in
skipped [] = refl
skipped (c ∷ cs) =
    elim (cases_Bool (is_blank c)) [
      | inl b ↦ rw b (skipped cs)
      | inr b ↦ let all : onward (λ d. not (is_blank d)) (c ∷ cs) ≡ c ∷ cs = rw b refl in rw all refl
    ]

words_behind : (bs : List ℕ) → filter (λ w. not (is_empty w)) (behind (onward is_blank bs)) ≡ words_in (onward is_blank bs)
unfolding words_in
words_behind [] = refl
words_behind (c ∷ cs) =
    elim (cases_Bool (is_blank c)) [
      | inl b ↦ let all : onward is_blank (c ∷ cs) ≡ c ∷ cs = rw b refl in rw all (rw b refl)
      | inr b ↦ rw b (words_behind cs)
    ]

-- a byte that is none begins a word
pub begun : (c : ℕ) (cs : List ℕ) → is_blank c ≡ false → words_in (c ∷ cs) ≡ before is_blank (c ∷ cs) ∷ words_in (onward is_blank (c ∷ cs))
unfolding words_in
begun c cs b =
    let f : before is_blank (c ∷ cs) ≡ c ∷ before is_blank cs = rw b refl in
    let o : onward is_blank (c ∷ cs) ≡ onward is_blank cs = rw b refl in
    let s : slice_split is_blank (c ∷ cs) ≡ (c ∷ before is_blank cs) ∷ behind (onward is_blank cs) = rw (f, o) at (first_piece (c ∷ cs)) in
    let w : words_in (c ∷ cs) ≡ (c ∷ before is_blank cs) ∷ filter (λ w. not (is_empty w)) (behind (onward is_blank cs)) = let n : is_empty (c ∷ before is_blank cs) ≡ false = grind arith in rw s (rw n refl) in
    rw (f, o) (w ∙ ap (λ ws. (c ∷ before is_blank cs) ∷ ws) (words_behind cs))

onward_short : (test : ℕ → Bool) (bs : List ℕ) → length (onward test bs) ≤ length bs
onward_short test [] = omega arith
onward_short test (c ∷ cs) =
    elim (cases_Bool (test c)) [
      | inl t ↦ rw t (omega arith)
      | inr t ↦ rw t (omega (arith, onward_short test cs))
    ]

onward_first : (bs : List ℕ) (c : ℕ) (cs : List ℕ) → onward (λ d. not (is_blank d)) bs ≡ c ∷ cs → is_blank c ≡ false
onward_first [] c cs e = absurd (omega (arith, ap length e))
onward_first (d ∷ ds) c cs e =
    elim (cases_Bool (is_blank d)) [
      | inl b ↦ onward_first ds c cs (rw b at e)
      | inr b ↦ let f : d ∷ ds ≡ c ∷ cs = rw b at e in let g : d ≡ c = cc in rw (← g) b
    ]

pub no_word : (bs us : List ℕ) → us ≡ onward (λ c. not (is_blank c)) bs → is_empty us ≡ true → words_in bs ≡ []
unfolding words_in
no_word bs [] e z = rw (skipped bs, sym e) refl
no_word bs (c ∷ cs) e z = absurd (grind (arith, z))

pub one_word : (bs us w r : List ℕ) → us ≡ onward (λ c. not (is_blank c)) bs → is_empty us ≡ false → w ≡ before is_blank us → r ≡ onward is_blank us →
    (words_in bs ≡ w ∷ words_in r) × (length r < length bs)
one_word bs [] w r e z f g = absurd (grind (arith, z))
one_word bs (c ∷ cs) w r e z f g =
    let b = onward_first bs c cs (sym e) in
    let h : r ≡ onward is_blank cs = rw b at g in
    (rw (skipped bs, sym e, f, g) (begun c cs b), omega (arith, ap length h, onward_short is_blank cs, ap length e, onward_short (λ d. not (is_blank d)) bs))
