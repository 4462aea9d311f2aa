-- Rows behind others: one more, and a longer last.
use Rattle.std.proofs.Common.{◌≡◌, ℕ, ◌+◌, ◌<◌, ◌≤◌, Bool, false, ◌&&◌, ◌||◌, ltb, ◌⊎◌, List, [], ◌∷◌, ◌++◌, Some, None, Option, IfSome, sym, refl, ap, ◌∙◌, inl, inr, arith}
use Rattle.std.proofs.Math.Bool.{or_assoc}
use Rattle.std.proofs.lemmas.Bool.{cases_lt, lt-ltb, le-ltb}
use Rattle.raise.specs.declared.LosingRow.{LosingRow}
use Rattle.raise.specs.Rows.{lies_in, lies_if, lies_in_one, Apart, RowsOf}
use Rattle.losses.specs.Parts.{PartOf}

-- ---- where these lie

pub lies_push : (rs : List LosingRow) (r : LosingRow) (g : ℕ) → lies_in_one (rs ++ (r ∷ [])) g ≡ (lies_in_one rs g || lies_in r g)
unfolding lies_in_one
lies_push [] r g = grind arith
lies_push (q ∷ rs) r g = ap (λ t. lies_in q g || t) (lies_push rs r g) ∙ sym (or_assoc (lies_in q g) (lies_in_one rs g) (lies_in r g))

pub apart_first : (x : ℕ) (r : LosingRow) → x ≤ r.first → r.first ≤ r.last → Apart x (r ∷ [])
unfolding Apart
apart_first x r lo some = (lo, some, tt)

pub apart_push : (x : ℕ) (rs : List LosingRow) (r p : LosingRow) → Apart x (rs ++ (r ∷ [])) → r.last + 2 ≤ p.first → p.first ≤ p.last → Apart x ((rs ++ (r ∷ [])) ++ (p ∷ []))
unfolding Apart
apart_push x [] r p a lo some = (a.0, a.1, (lo, some, tt))
apart_push x (q ∷ rs) r p a lo some = (a.0, a.1, apart_push (q.last + 2) rs r p a.2 lo some)

pub apart_longer : (x : ℕ) (rs : List LosingRow) (r p : LosingRow) → Apart x (rs ++ (r ∷ [])) → r.last ≤ p.last → Apart x (rs ++ (record { first = r.first; last = p.last } ∷ []))
unfolding Apart
apart_longer x [] r p a le = (a.0, omega (arith, a.1, le), tt)
apart_longer x (q ∷ rs) r p a le = (a.0, a.1, apart_longer (q.last + 2) rs r p a.2 le)

-- the last is not empty
pub last_some : (x : ℕ) (rs : List LosingRow) (r : LosingRow) → Apart x (rs ++ (r ∷ [])) → r.first ≤ r.last
unfolding Apart
last_some x [] r a = a.1
last_some x (q ∷ rs) r a = last_some (q.last + 2) rs r a.2

-- ---- what these say

module _ (test : ℕ → Bool) (x y : ℕ) (lt : x < y) (p : Option LosingRow) (i : PartOf test x y p) where
  outside : (g : ℕ) → (g < x) ⊎ (y ≤ g) → lies_if p g ≡ false
  outside g off = by_part p i.within
    where
      by_part : (o : Option LosingRow) → IfSome o (λ r. (x ≤ r.first) × (r.first ≤ r.last) × (r.last < y)) → lies_if o g ≡ false
      by_part None w = refl
      by_part (Some r) w = elim off [ inl under ↦ grind (arith, w.0, w.1, w.2, under) | inr past ↦ grind (arith, w.0, w.1, w.2, past) ]

  -- so it goes behind the rows of [0, x)
  pub extended : (all more : List LosingRow) → RowsOf test x all → ((g : ℕ) → lies_in_one more g ≡ (lies_in_one all g || lies_if p g)) → Apart 0 more → RowsOf test y more
  extended all more before same apart = record { apart = apart; exact = λ g. same g ∙ told g }
    where
      told : (g : ℕ) → (lies_in_one all g || lies_if p g) ≡ (ltb g y && test g)
      told g =
          let e = before.exact g in
          elim (cases_lt g x) [
            | inl under ↦ let o = outside g (inl under) in rw (e, o, lt-ltb g x under, lt-ltb g y (omega (arith, lt, under))) (grind arith)
            | inr from ↦ elim (cases_lt g y) [
              | inl inside ↦ rw (e, i.exact g from inside, le-ltb g x from, lt-ltb g y inside) refl
              | inr past ↦ rw (e, outside g (inr past), le-ltb g x from, le-ltb g y past) refl
            ]
          ]
