-- What `any` and `find` answer over a..=b is what the definitions say of all earnings from a up to b.
use Rattle.std.proofs.Common.{◌≡◌, ℕ, zero, suc, ◌+◌, ◌-◌, Bool, true, false, not, Some, None, Option, MatchOption, IfSome, eqb, ◌⊎◌, inl, inr, List, [], ◌∷◌, ℤ, refl, sym, subst, ap, ◌∙◌, arith}
use lib.Signed.{lt_z}
use denote.Ref.{Bor}
use denote.Param.Members.{Mut}
use Rattle.std.specs.declared.ops.RangeInclusive.{RangeInclusive}
use Rattle.std.specs.Range.{range_inclusive_start, range_inclusive_end, range_inclusive_exhausted, range_inclusive_len}
use Rattle.std.specs.Fn.{Called, CalledAt}
use Rattle.std.specs.Iterator.{Yields, YieldsThen}
use Rattle.std.specs.List.{FoldsTo}
use Rattle.std.proofs.iter.runs.Sources.{nat_range_inclusive_steps}
use Rattle.std.proofs.lemmas.Bool.{cases_Bool}
use Rattle.raise.specs.Rules.{Rule, less_left, some_less, first_that}
use Rattle.raise.specs.Told.{gross_told}
use Rattle.raise.specs.Net.{net}
use Rattle.raise.proofs.Straight.{net_order}

-- what the comparison of two amounts tells, m being left of h and n of g
pub less_is : (rs : List Rule) (g h : ℕ) (m n : ℤ) → m ≡ net rs h → n ≡ net rs g → lt_z m n ≡ less_left rs g h
less_is rs g h m n d e = rw (d, e) (sym (net_order rs g h))

-- ---- a search, R p x t q being a call of the test p at x that gave t and left q

-- how many earnings are left
abbrev left : RangeInclusive ℕ → ℕ
left s = range_inclusive_len (λ x y. y - x) (range_inclusive_start s) (range_inclusive_end s) (range_inclusive_exhausted s)

spent_or_fresh : (s : RangeInclusive ℕ) → (left s ≡ 0) ⊎ (range_inclusive_exhausted s ≡ false)
spent_or_fresh s = elim (cases_Bool (range_inclusive_exhausted s)) [ inl spent ↦ inl (ap (range_inclusive_len (λ x y. y - x) (range_inclusive_start s) (range_inclusive_end s)) spent) | inr fresh ↦ inr fresh ]

module _ {F : Type 0} (R : F → ℕ → Bool → F → Type 0) (f : F) (test : ℕ → Bool) (acts : (x : ℕ) (t : Bool) (q : F) → R f x t q → (q ≡ f) × (t ≡ test x)) where
  -- after one that doesn't pass
  after : (m n g h : ℕ) → m + 1 ≡ n → test g ≡ false → (m ≡ 0) ⊎ (h ≡ g + 1) → first_that test m h ≡ first_that test n g
  unfolding first_that
  after m n g h one e (inl none) = let s : n ≡ 1 = omega arith in rw (none, s, e) refl
  after m n g h one e (inr goes) = let s : n ≡ suc m = omega arith in let t : h ≡ suc g = omega arith in rw (s, t, e) refl

  searched : (xs : List ℕ) (o : Option ℕ) (j : F) (s t u : RangeInclusive ℕ) → Yields nat_range_inclusive_steps s xs t → nat_range_inclusive_steps t o u → FoldsTo (λ p x q. R p x false q) f xs j →
      IfSome o (λ x. (h : F) × R j x true h) → gross_told o ≡ first_that test (left s) (range_inclusive_start s)
  unfolding first_that
  searched [] None j s t u same step calls last = let e : left s ≡ 0 = ap left same ∙ step.1.0 in rw e refl
  searched [] (Some x) j s t u same step calls last =
      let e : left s ≡ suc (left u) = ap left same ∙ sym step.1.1 ∙ omega arith in
      let here : x ≡ range_inclusive_start s = step.1.0 ∙ sym (ap range_inclusive_start same) in
      let passes : test x ≡ true = sym (acts x true last.0 (subst (λ p. R p x true last.0) (sym calls) last.1)).1 in
      rw (e, ← here, passes) refl
  searched (x ∷ xs) o j s t u (v, first, more) step (q, call, calls) last =
      let a = acts x false q call in
      let fails : test (range_inclusive_start s) ≡ false = ap test (sym first.1.0) ∙ sym a.1 in
      searched xs o j v t u more step (subst (λ p. FoldsTo (λ p x q. R p x false q) p xs j) a.0 calls) last
      ∙ after (left v) (left s) _ _ first.1.1 fails (elim (spent_or_fresh v) [ inl none ↦ inl none | inr fresh ↦ inr (first.1.2 fresh) ])

  over : (a b : ℕ) (s u : RangeInclusive ℕ) (o : Option ℕ) (xs : List ℕ) (j : F) → (range_inclusive_start s ≡ a) × (range_inclusive_end s ≡ b) × (range_inclusive_exhausted s ≡ false) →
      YieldsThen nat_range_inclusive_steps s xs o u → FoldsTo (λ p x q. R p x false q) f xs j → IfSome o (λ x. (h : F) × R j x true h) → gross_told o ≡ first_that test (suc b - a) a
  over a b s u o xs j (at, to, fresh) (t, yields, step) calls last =
      let l : left s ≡ suc b - a = ap (range_inclusive_len (λ x y. y - x) (range_inclusive_start s) (range_inclusive_end s)) fresh ∙ omega arith in
      searched xs o j s t u yields step calls last ∙ rw (l, at) refl

-- `find` over a..=b
pub found : {F : Type 0} (g : Mut F (Bor ℕ × Unit {0}) Bool) (f : F) (test : ℕ → Bool) → ((x : ℕ) (t : Bool) (q : F) → CalledAt g f x t q → (q ≡ f) × (t ≡ test x)) →
    (a b : ℕ) (s u : RangeInclusive ℕ) (o : Option ℕ) → (range_inclusive_start s ≡ a) × (range_inclusive_end s ≡ b) × (range_inclusive_exhausted s ≡ false) →
    (xs : List ℕ) × (j : F) × YieldsThen nat_range_inclusive_steps s xs o u × FoldsTo (λ p x q. CalledAt g p x false q) f xs j × IfSome o (λ x. (h : F) × CalledAt g j x true h) →
    gross_told o ≡ first_that test (suc b - a) a
found g f test acts a b s u o new (xs, j, yields, calls, last) = over (CalledAt g) f test acts a b s u o xs j new yields calls last

-- less is left of some earning just if one is found
some_first : (rs : List Rule) (g n h : ℕ) → some_less rs g n h ≡ not (eqb (first_that (less_left rs g) n h) 0)
unfolding some_less first_that
some_first rs g zero h = refl
some_first rs g (suc n) h = elim (cases_Bool (less_left rs g h)) [ inl t ↦ rw t (grind arith) | inr u ↦ rw u (some_first rs g n (suc h)) ]

-- `any` over a..=b
pub some_found : {F : Type 0} (g : Mut F (ℕ × Unit {0}) Bool) (f : F) (rs : List Rule) (n : ℕ) → ((x : ℕ) (t : Bool) (q : F) → Called g f (x, tt) t q → (q ≡ f) × (t ≡ less_left rs n x)) →
    (a b : ℕ) (s u : RangeInclusive ℕ) (r : Bool) → (range_inclusive_start s ≡ a) × (range_inclusive_end s ≡ b) × (range_inclusive_exhausted s ≡ false) →
    (xs : List ℕ) × (o : Option ℕ) × (j : F) × YieldsThen nat_range_inclusive_steps s xs o u × FoldsTo (λ p x q. Called g p (x, tt) false q) f xs j
    × MatchOption o (r ≡ false) (λ x. (r ≡ true) × ((h : F) × Called g j (x, tt) true h)) →
    r ≡ some_less rs n (suc b - a) a
some_found g f rs n acts a b s u r new (xs, None, j, yields, calls, last) =
    let e : 0 ≡ first_that (less_left rs n) (suc b - a) a = over (λ p x t q. Called g p (x, tt) t q) f (less_left rs n) acts a b s u None xs j new yields calls tt in
    last ∙ sym (some_first rs n (suc b - a) a ∙ rw (← e) refl)
some_found g f rs n acts a b s u r new (xs, Some x, j, yields, calls, last) =
    let e : suc x ≡ first_that (less_left rs n) (suc b - a) a = over (λ p x t q. Called g p (x, tt) t q) f (less_left rs n) acts a b s u (Some x) xs j new yields calls last.1 in
    last.0 ∙ sym (some_first rs n (suc b - a) a ∙ rw (← e) (grind arith))
