-- The first row from an earning on, row by row.
use Rattle.std.proofs.Common.{leb, true, false, ◌≡◌, ℕ, ◌+◌, ◌*◌, ◌/◌, ◌<◌, ◌≤◌, List, ◌∷◌, map, length, get_or, take, drop, Some, None, Option, sym, refl, ap, ◌∙◌, inl, inr, arith}
use Rattle.std.specs.Simd.{first_chunks}
use Rattle.std.proofs.lemmas.List.{length-map, drop_all}
use Rattle.std.proofs.lemmas.Bool.{both_ways, cases_Bool}
use Rattle.std.specs.Option.{is_some}
use Rattle.raise.specs.declared.LosingRow.{LosingRow}
use Rattle.raise.specs.Rows.{losing_rows, rest_from, first_row_from}
use Rattle.raise.specs.Rules.{Rule, first_losing}
use Rattle.raise.specs.Calls.{Limits, told, row_from}
use Rattle.raise.specs.Told.{row_told}
use Rattle.raise.proofs.AllRows.{losing_found, row_is_first}
use Rattle.raise.proofs.Picks.{none_some}
use Rattle.losses.specs.Words.{width, read_row, Stored}
use Rattle.losses.proofs.Lists.{chunks_read, read_at}

-- those before the i-th end below g
abbrev pub Passed : List (List ℕ) → ℕ → ℕ → Type 0
Passed chunks i g = (rows : List LosingRow) → map read_row chunks ≡ map Some rows → first_row_from rows g ≡ first_row_from (drop i rows) g

-- so many chunks of words that hold so many rows
pub all_read : (ws : List ℕ) (count : ℕ) (chunks : List (List ℕ)) (rows : List LosingRow) → width * count ≤ length ws → chunks ≡ first_chunks width (length ws / width) ws → count ≡ length rows → Stored ws rows →
    map read_row (take count chunks) ≡ map Some rows
all_read ws count chunks rows le c n s = rw (c, n) (chunks_read read_row width rows (length ws / width) ws (omega (arith, le, n)) s)

module _ (chunks : List (List ℕ)) (i g : ℕ) (h : Passed chunks i g) (d : List ℕ) (lt : i < length chunks) (rows : List LosingRow) (e : map read_row chunks ≡ map Some rows) where
  pub readable : None ≡ read_row (get_or chunks i d) → ⊥
  readable n = none_some (read_at read_row rows chunks i d e lt).0 (n ∙ (read_at read_row rows chunks i d e lt).1)

  module _ (r : LosingRow) (s : Some r ≡ read_row (get_or chunks i d)) where
    here : first_row_from rows g ≡ first_row_from (r ∷ drop (i + 1) rows) g
    here =
        let k = read_at read_row rows chunks i d e lt in
        let t : Some r ≡ Some k.0 = s ∙ k.1 in
        let q : k.0 ≡ r = cc in
        h rows e ∙ ap (λ (xs : List LosingRow). first_row_from xs g) k.2 ∙ ap (λ (x : LosingRow). first_row_from (x ∷ drop (i + 1) rows) g) q

    -- by what of it lies at g or above: it is the first, or it ends below g
    module _ (o : Option LosingRow) (p : o ≡ rest_from r g) where
      pub is_first : is_some o ≡ true → o ≡ first_row_from rows g
      unfolding first_row_from
      is_first s = elim (cases_Bool (leb g r.last)) [ inl t ↦ rw t at p ∙ sym (here ∙ rw t refl) | inr u ↦ absurd (both_ways (is_some o) (ap is_some (rw u at p)) s) ]

      pub not_first : is_some o ≡ false → first_row_from rows g ≡ first_row_from (drop (i + 1) rows) g
      unfolding first_row_from
      not_first n = elim (cases_Bool (leb g r.last)) [ inl t ↦ absurd (both_ways (is_some o) n (ap is_some (rw t at p))) | inr u ↦ here ∙ rw u refl ]

-- past them all there is none
pub none_first : (chunks : List (List ℕ)) (i g : ℕ) (rows : List LosingRow) → Passed chunks i g → map read_row chunks ≡ map Some rows → length chunks ≤ i → None ≡ first_row_from rows g
unfolding first_row_from
none_first chunks i g rows h e le =
    let l : length rows ≤ i = omega (arith, ap length e, length-map chunks read_row, length-map rows (λ (r : LosingRow). Some r), le) in
    sym (h rows e ∙ ap (λ (rs : List LosingRow). first_row_from rs g) (drop_all i rows l))

-- the first row of a book is the row
pub row_is : (rs : List Rule) (b g : ℕ) (o : Option LosingRow) → o ≡ first_row_from (losing_rows rs b) g → (l : Limits) → l.bound ≡ b → row_told o ≡ row_from l rs (first_losing rs b g)
unfolding told
row_is rs b g o e l d = rw (← d) (ap row_told (rw d e) ∙ row_is_first l rs g (losing_rows rs l.bound) (losing_found rs l.bound))
