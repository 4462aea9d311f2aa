-- Rows in words, told one by one.
use Rattle.std.proofs.Common.{◌≡◌, ℕ, ◌+◌, ◌<◌, List, [], ◌∷◌, ◌++◌, map, length, drop, get_or, Option, Some, None, Ok, Err, Result, flat_map, sym, refl, ◌∙◌, arith}
use Rattle.std.proofs.lemmas.List.{append_assoc}
use Rattle.raise.specs.declared.LosingRow.{LosingRow}
use Rattle.raise.specs.Rules.{Rule}
use Rattle.losses.specs.Words.{read_row}
use Rattle.losses.proofs.Lists.{read_at}
use Rattle.raise.proofs.Picks.{none_some}
use Rattle.book.specs.Held.{Book}
use Rattle.report.specs.Reading.{Draft, Misfit}
use Rattle.report.specs.declared.Outcome.{Outcome}
use Rattle.std.specs.declared.alloc.AllocError.{AllocError}
use Rattle.std.specs.Result.{IfOk}
use Rattle.report.specs.Drafts.{Filed, printed}
use Rattle.report.specs.Report.{losing_row_line, rows_or_none, told_by, told_of}

module _ (chunks : List (List ℕ)) (told : List LosingRow) (e : map read_row chunks ≡ map Some told) (i : ℕ) (d : List ℕ) (lt : i < length chunks) where
  pub held : (o : Option LosingRow) → o ≡ read_row (get_or chunks i d) → o ≡ None → ⊥
  held o r n = none_some (read_at read_row told chunks i d e lt).0 (sym n ∙ r ∙ (read_at read_row told chunks i d e lt).1)

  pub next_row : (r : LosingRow) → Some r ≡ read_row (get_or chunks i d) → (line : LosingRow → List ℕ) → flat_map line (drop i told) ≡ line r ++ flat_map line (drop (i + 1) told)
  next_row r s line =
      let k = read_at read_row told chunks i d e lt in
      let t : Some r ≡ Some k.0 = s ∙ k.1 in
      let q : k.0 ≡ r = cc in
      rw (k.2, q) refl

-- a line more in the text
pub one_more : (was now line more rest all : List ℕ) → was ++ rest ≡ all → rest ≡ line ++ more → now ≡ was ++ line → now ++ more ≡ all
one_more was now line more rest all e f g = rw g (append_assoc was line more ∙ rw (← f) e)

-- where there are rows, their lines
pub some_rows : (rs : List Rule) (b n : ℕ) (rows : List LosingRow) → n ≡ length rows → 0 < n → flat_map (losing_row_line rs b) rows ≡ rows_or_none rs b rows
some_rows rs b n [] e l = absurd (omega (arith, e, l))
some_rows rs b n (r ∷ rows) e l = refl

-- what is told of a file is told of the book that it makes
pub filed : (r : Result Draft Misfit) (b : Book) (ws : List (List ℕ)) (t : Result Outcome AllocError) → Filed r (Ok b) → IfOk t (λ o. printed o ≡ told_by b.rules b.bound ws) →
    IfOk t (λ o. printed o ≡ told_of r ws)
filed (Ok d) b ws t f e = rw f at e
filed (Err m) b ws t f e = absurd f
