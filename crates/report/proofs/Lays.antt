-- What laying a rule makes of a draft, and what opening does.
use Rattle.std.proofs.Common.{◌≡◌, ℕ, ◌≤◌, true, false, eqb, leb, ltb, List, ◌++◌, length, drop, subst, Ok, Err, sym, refl, ap, ◌∙◌, inl, inr}
use Rattle.std.proofs.lemmas.Bool.{cases_Bool, le-leb, lt-leb, ltb-true, le-ltb}
use Rattle.raise.specs.Rules.{Rule}
use Rattle.raise.specs.Calls.{Answer, lays, refused, number, two, turned, changed, place, told, answer}
use Rattle.wire.specs.declared.answers.Refusal.{Refusal}
use Rattle.wire.specs.Meaning.{refusal_number}
use Rattle.book.specs.Held.{Book, Good, asked, image, with_rules}
use Rattle.book.proofs.Laws.{image_reads, held_good}
use Rattle.session.specs.Memory.{limited, limits, says_in, next_in, says_words, next_words, opening, open_words, empty}
use Rattle.session.proofs.Runs.{good_after, good_empty, accepted}
use Rattle.text.specs.RuleLines.{bounds}
use Rattle.report.specs.Reading.{Draft, blank, with_line, with_call}
use Rattle.report.specs.Drafts.{book, Holds, Comes}

-- an answer that is no refusal
abbrev pub Taken : Answer → Type 0
Taken (refused k n) = ⊥
Taken (number n) = Unit {0}
Taken (two m n) = Unit {0}

refused_number : {k p n : ℕ} → refused k p ≡ number n → ⊥
refused_number x = subst Taken (sym x) tt

module _ (ws : List ℕ) (d : Draft) (h : Holds ws d) (r : Rule) where
  abbrev b : Book
  b = book d

  good : Good b
  good = (held_good ws b h).0

  says : says_words ws (lays r) ≡ answer (limits b) d.rules (lays r)
  says = ap (says_in (lays r)) h

  pub refuses : (e : Refusal) (p : ℕ) (vs : List ℕ) → refused (refusal_number e) p ≡ says_words ws (lays r) → Comes (with_call d (lays r)) vs (Err e)
  unfolding told
  refuses e p vs s =
      elim (cases_Bool (eqb (turned (limits b) d.rules (lays r)) 0)) [
        | inl t ↦ let x : refused (refusal_number e) p ≡ number (length d.rules) = s ∙ says ∙ rw t refl in absurd (refused_number x)
        | inr t ↦ let x : refused (refusal_number e) p ≡ refused (turned (limits b) d.rules (lays r)) (place (lays r) (turned (limits b) d.rules (lays r))) = s ∙ says ∙ rw t refl in rw t cc
      ]

  pub lays_it : (a : Answer) (vs : List ℕ) → Taken a → a ≡ says_words ws (lays r) → vs ≡ next_words ws (lays r) → Comes (with_call d (lays r)) vs (Ok false)
  unfolding told
  lays_it a vs k s w =
      elim (cases_Bool (eqb (turned (limits b) d.rules (lays r)) 0)) [
        | inl t ↦
            let n : next_words ws (lays r) ≡ image (with_rules b (changed d.rules (lays r))) ++ drop (asked 16) ws = ap (next_in ws (lays r)) h ∙ rw t refl in
            let g : Good (with_rules b (changed d.rules (lays r))) = rw t at (good_after b (lays r) good) in
            rw (t, w, n) (image_reads (with_rules b (changed d.rules (lays r))) (drop (asked 16) ws) g, refl)
        | inr t ↦
            let x : a ≡ refused (turned (limits b) d.rules (lays r)) (place (lays r) (turned (limits b) d.rules (lays r))) = s ∙ says ∙ rw t refl in
            absurd (subst Taken x k)
      ]

-- ---- a bound

module _ (ws vs : List ℕ) (d : Draft) (h : Holds ws d) (n : ℕ) where
  room : asked 16 ≤ length ws
  room = (held_good ws (book d) h).1

  pub opens : number 0 ≡ opening ws (limited 16 n) → vs ≡ open_words ws (limited 16 n) → d.fresh ≡ true → Comes (with_line d (bounds n)) vs (Ok false)
  opens o w f =
      let a = accepted ws (limited 16 n) (sym o) in
      let t : leb n 1000000000 ≡ true = le-leb _ _ a.0.1 in
      rw (f, t, w, a.1) (image_reads (empty (limited 16 n)) (drop (asked 16) ws) (good_empty (limited 16 n) a.0), refl)

  pub too_high : (e : Refusal) (p : ℕ) → refused (refusal_number e) p ≡ opening ws (limited 16 n) → d.fresh ≡ true → Comes (with_line d (bounds n)) vs (Err e)
  too_high e p o f =
      elim (cases_Bool (ltb 1000000000 n)) [
        | inl t ↦
            let u : leb n 1000000000 ≡ false = lt-leb _ _ (ltb-true _ _ t) in
            let x : refused (refusal_number e) p ≡ refused 3 1 = o ∙ rw t refl in
            rw (f, u) cc
        | inr t ↦
            let u : ltb (length ws) (asked 16) ≡ false = le-ltb _ _ room in
            let x : refused (refusal_number e) p ≡ number 0 = o ∙ rw (t, u) refl in
            absurd (refused_number x)
      ]

-- ---- opened for a file that names no bound

pub begun : (ws vs : List ℕ) → asked 16 ≤ length ws → vs ≡ open_words ws (limited 16 999999999) → Holds vs blank
begun ws vs l w =
    let t : ltb (length ws) (asked 16) ≡ false = le-ltb _ _ l in
    let a = accepted ws (limited 16 999999999) (rw t refl) in
    rw (w, a.1) (image_reads (empty (limited 16 999999999)) (drop (asked 16) ws) (good_empty (limited 16 999999999) a.0))
