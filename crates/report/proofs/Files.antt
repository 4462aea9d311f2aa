-- A file, line by line.
use Rattle.std.proofs.Common.{◌≡◌, ℕ, suc, ◌+◌, ◌<◌, ◌≤◌, Bool, true, eqb, List, [], ◌∷◌, length, take, Some, None, Ok, Err, Result, refl, ◌∙◌, inl, inr, arith, Bor}
use Rattle.std.specs.Iterator.{AlwaysYields}
use Rattle.std.specs.List.{slice_split, onto_first}
use Rattle.std.specs.declared.str.Lines.{Lines}
use Rattle.std.specs.Str.Iter.{lines_steps, lines_rest}
use Rattle.std.specs.Str.Lines.{lines, lines_of_parts}
use Rattle.std.specs.Str.{bytes_eq}
use Rattle.std.proofs.lemmas.List.{length-drop}
use Rattle.std.proofs.lemmas.Bool.{cases_Bool}
use Rattle.std.proofs.lemmas.Iterator.Splits.{YieldsList-from_lines}
use Rattle.wire.specs.declared.answers.Refusal.{Refusal}
use Rattle.wire.specs.Meaning.{refusal_number}
use Rattle.report.specs.Reading.{Draft, says_of, mark, without_mark, blank, draft, draft_from, with_line, or_misfit}
use Rattle.report.specs.Drafts.{Holds, Comes}

-- ---- how many lines there can be

onto_few : (c : ℕ) (parts : List (List ℕ)) → length (onto_first c parts) ≤ length parts + 1
onto_few c [] = omega arith
onto_few c (x ∷ parts) = omega arith

parts_few : (test : ℕ → Bool) (bs : List ℕ) → length (slice_split test bs) ≤ length bs + 1
parts_few test [] = omega arith
parts_few test (c ∷ cs) =
    elim (cases_Bool (test c)) [
      | inl t ↦ rw t (omega (arith, parts_few test cs))
      | inr t ↦ rw t (omega (arith, parts_few test cs, onto_few c (slice_split test cs)))
    ]

lines_of_few : (parts : List (List ℕ)) → length (lines_of_parts parts) ≤ length parts
lines_of_few [] = omega arith
lines_of_few (x ∷ []) = elim (cases_Bool (eqb (length x) 0)) [ inl t ↦ rw t (omega arith) | inr t ↦ rw t (omega arith) ]
lines_of_few (x ∷ (y ∷ more)) = omega (arith, lines_of_few (y ∷ more))

lines_few : (bs : List ℕ) → length (lines bs) ≤ length bs + 1
lines_few bs = omega (arith, lines_of_few (slice_split (λ b. eqb b 10) bs), parts_few (λ b. eqb b 10) bs)

mark_off : (text : List ℕ) → length (without_mark text) ≤ length text
mark_off text = elim (cases_Bool (bytes_eq (take 3 text) mark)) [ inl t ↦ rw t (omega (arith, length-drop 3 text)) | inr t ↦ rw t (omega arith) ]

-- ---- after some lines: what they made, and what those to come will make of it

pub record Going (text ws : List ℕ) (still : Bool) (count : ℕ) (more : List (List ℕ)) : Type 0 where
  pub d : Draft
  pub held : Holds ws d
  pub same : still ≡ d.fresh
  pub comes : draft text ≡ draft_from (suc count) d more
  pub few : count + length more ≤ length (lines (without_mark text))

pub begins : (text ws : List ℕ) → Holds ws blank → Going text ws true 0 (lines (without_mark text))
begins text ws h = record { d = blank; held = h; same = refl; comes = refl; few = omega arith }

module _ (text ws : List ℕ) (still : Bool) (count : ℕ) (line : List ℕ) (more : List (List ℕ)) (g : Going text ws still count (line ∷ more)) where
  pub countable : count < length text + 1
  countable = omega (arith, g.few, lines_few (without_mark text), mark_off text)

  step : draft text ≡ or_misfit (suc count) line (λ e. draft_from (suc (suc count)) e more) (with_line g.d (says_of line))
  unfolding draft_from
  step = g.comes

  pub added : (vs : List ℕ) (fresh : Bool) → ((d : Draft) → Holds ws d → still ≡ d.fresh → Comes (with_line d (says_of line)) vs (Ok fresh)) → Going text vs fresh (suc count) more
  added vs fresh h = by_line (with_line g.d (says_of line)) refl (h g.d g.held g.same)
    where
      by_line : (r : Result Draft ℕ) → with_line g.d (says_of line) ≡ r → Comes r vs (Ok fresh) → Going text vs fresh (suc count) more
      by_line (Ok e) t c = record { d = e; held = c.0; same = c.1; comes = step ∙ rw t refl; few = omega (arith, g.few) }
      by_line (Err k) t c = absurd c

  pub misfits : (vs : List ℕ) (e : Refusal) → ((d : Draft) → Holds ws d → still ≡ d.fresh → Comes (with_line d (says_of line)) vs (Err e)) →
      draft text ≡ Err (record { line = suc count; text = line; number = refusal_number e })
  misfits vs e h = by_line (with_line g.d (says_of line)) refl (h g.d g.held g.same)
    where
      by_line : (r : Result Draft ℕ) → with_line g.d (says_of line) ≡ r → Comes r vs (Err e) → draft text ≡ Err (record { line = suc count; text = line; number = refusal_number e })
      by_line (Ok d) t c = absurd c
      by_line (Err k) t c = step ∙ rw (t, c) refl

pub ends : (text ws : List ℕ) (still : Bool) (count : ℕ) (g : Going text ws still count []) → draft text ≡ Ok g.d
unfolding draft_from
ends text ws still count g = g.comes

-- ---- with what the library says of the lines that are left

abbrev pub AtLine : List ℕ → List ℕ → Bool → ℕ → Lines → Type 0
AtLine text ws still count s = (more : List (List ℕ)) × AlwaysYields lines_steps (λ x. x.now) s more × Going text ws still count more

pub at_first : (text ws : List ℕ) (s : Lines) → lines_rest s ≡ without_mark text → Holds ws blank → AtLine text ws true 0 s
at_first text ws s e h = (lines (without_mark text), (YieldsList-from_lines (without_mark text) e).runs, begins text ws h)

module _ (text ws : List ℕ) (still : Bool) (count : ℕ) (s t : Lines) (h : AtLine text ws still count s) where
  pub one_line : (x : Bor (List ℕ)) → lines_steps s (Some x) t → (more : List (List ℕ)) × AlwaysYields lines_steps (λ y. y.now) t more × Going text ws still count (x.now ∷ more)
  one_line x step = by_more h.0 h.1 h.2
    where
      by_more : (more : List (List ℕ)) → AlwaysYields lines_steps (λ y. y.now) s more → Going text ws still count more →
          (others : List (List ℕ)) × AlwaysYields lines_steps (λ y. y.now) t others × Going text ws still count (x.now ∷ others)
      by_more [] a g = absurd (a x t step)
      by_more (l ∷ ls) a g = let n = a.1 x t step in (ls, n.1, rw n.0 g)

  pub no_line : lines_steps s None t → (d : Draft) × (draft text ≡ Ok d) × Holds ws d
  no_line step = by_more h.0 h.1 h.2
    where
      by_more : (more : List (List ℕ)) → AlwaysYields lines_steps (λ y. y.now) s more → Going text ws still count more → (d : Draft) × (draft text ≡ Ok d) × Holds ws d
      by_more [] a g = (g.d, ends text ws still count g, g.held)
      by_more (l ∷ ls) a g = absurd (a.0 t step)
