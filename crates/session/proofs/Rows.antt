-- All rows, one after the other, on the image of a good book with anything behind it.
use Rattle.std.proofs.Common.{◌≡◌, ℕ, suc, ◌≤◌, eqb, List, [], ◌∷◌, ◌++◌, refl, ap, ◌∙◌, inl, inr, arith}
use Rattle.std.proofs.lemmas.Bool.{cases_Bool, le-leb}
use Rattle.raise.specs.declared.LosingRow.{LosingRow}
use Rattle.raise.specs.Rules.{Rule}
use Rattle.raise.specs.Calls.{Limits, next_row, turned, changed, told, after, answer}
use Rattle.raise.specs.Rows.{losing_rows}
use Rattle.raise.proofs.AllRows.{losing_found, From, none_told, first_told, first_below, others}
use Rattle.book.specs.Held.{Book, Good, image, with_rules}
use Rattle.session.specs.Memory.{limits, next_words, desk}
use Rattle.session.specs.Rows.{TellsRows, TellsAllRows}
use Rattle.session.proofs.Steps.{next_behind, says_behind}

-- an earning up to the bound can be asked for
answered : (l : Limits) (rs : List Rule) (g : ℕ) → g ≤ l.bound → answer l rs (next_row g) ≡ told l rs (next_row g)
unfolding turned
answered l rs g le = rw (le-leb g l.bound le) refl

-- and that changes no rule
same_rules : (l : Limits) (rs : List Rule) (g : ℕ) → after l rs (next_row g) ≡ rs
unfolding changed
same_rules l rs g = elim (cases_Bool (eqb (turned l rs (next_row g)) 0)) [ inl t ↦ rw t refl | inr t ↦ rw t refl ]

module _ (b : Book) (ys : List ℕ) (k : Good b) where
  stays : (g : ℕ) → next_words (image b ++ ys) (next_row g) ≡ image b ++ ys
  stays g = next_behind b ys (next_row g) k ∙ ap (λ (rs : List Rule). image (with_rules b rs) ++ ys) (same_rules (limits b) b.rules g)

  tells : (g : ℕ) (rows : List LosingRow) → g ≤ b.bound → From (limits b) b.rules g g rows → TellsRows desk (record { words = image b ++ ys }) g rows
  unfolding TellsRows
  tells g [] le f = says_behind b ys (next_row g) k ∙ answered (limits b) b.rules g le ∙ none_told (limits b) b.rules g f
  tells g (r ∷ rows) le f = (
    says_behind b ys (next_row g) k ∙ answered (limits b) b.rules g le ∙ first_told (limits b) b.rules g r rows f,
    rw (stays g) (tells (suc r.last) rows (first_below (limits b) b.rules g r rows f) (others (limits b) b.rules g r rows f)),
  )

  pub tells_all : TellsAllRows desk (record { words = image b ++ ys }) b.rules b.bound
  unfolding TellsAllRows
  tells_all =
      let i = losing_found b.rules b.bound in
      (losing_rows b.rules b.bound, i, tells 0 (losing_rows b.rules b.bound) (omega arith) (record { apart = i.apart; exact = λ g lo. i.exact g }))
