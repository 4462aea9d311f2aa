-- The fields of a book stay those of one when a rule is laid or lifted.
use Rattle.std.proofs.Common.{◌≡◌, ℕ, suc, ◌+◌, ◌-◌, ◌<◌, ◌≤◌, true, List, [], ◌∷◌, ◌++◌, length, get_or, take, drop, set, replicate, sym, ap, ◌∙◌, append_assoc, arith}
use borrow.Rule.Slice.PartMut.{mid_of, put_mid}
use lib.Seq.{drop-cons}
use Rattle.std.specs.List.{remove}
use Rattle.std.proofs.lemmas.List.{length-append, length-map, length-replicate, length-set, length-take-le, length_push, map_push, set-append_right, take_at, take-take, take_more_set, drop_at, drop-drop}
use Rattle.std.proofs.lemmas.List.Edits.{length-remove}
use Rattle.std.proofs.lemmas.Slice.{between_is}
use Rattle.raise.specs.Calls.{fine}
use Rattle.wire.specs.declared.calls.Rule.{Rule}
use Rattle.wire.specs.Meaning.{meant}
use Rattle.book.specs.Held.{with_rules}
use Rattle.book.specs.Meant.{all_meant}
use Rattle.book.specs.Value.{stands_for}
use Rattle.book.specs.Fields.{blank, filled, AreFirst, Kept}
use Rattle.book.specs.declared.value.Book.TheInside.{Inside}
use Rattle.book.proofs.Laws.{good_laid, good_lifted}
use Rattle.book.proofs.Places.{meant_lifted}

-- its array is full, and as many of it are rules as are counted
pub counted : (b : Inside) → Kept b → (length b.rules ≡ 64) × (b.count ≤ b.limit) × (length (all_meant (take b.count b.rules)) ≡ b.count)
counted b k =
    let us = take b.count b.rules in
    let m : length us ≡ b.count = length-take-le b.count b.rules k.first.there in
    let n : length (all_meant us) ≡ b.count = length-map us meant ∙ m in
    let l : length b.rules ≡ length us + (64 - length us) = ap length k.first.rest ∙ length-append us (replicate (64 - length us) blank) ∙ ap (λ (j : ℕ). length us + j) (length-replicate (64 - length us) blank) in
    (omega (arith, l, m, n, k.good.few, k.good.room), omega (arith, n, k.good.room), n)

-- ---- one rule more

pushed : (rs : List Rule) (n : ℕ) (r : Rule) → n ≤ length rs → rs ≡ filled (take n rs) → n < 64 → set rs n r ≡ filled (take n rs ++ (r ∷ []))
pushed rs n r h e l =
    let us = take n rs in
    let m : length us ≡ n = length-take-le n rs h in
    let k = 64 - (n + 1) in
    let s : 64 - length us ≡ suc k = omega (arith, m) in
    let z : n - n ≡ 0 = omega arith in
    let q : 64 - length (us ++ (r ∷ [])) ≡ k = omega (arith, length_push us r, m) in
    ap (λ (x : List Rule). set x n r) e ∙ set-append_right us (replicate (64 - length us) blank) n n r m (omega arith) ∙
    ap (λ (j : ℕ). us ++ set (replicate j blank) (n - n) r) s ∙ ap (λ (j : ℕ). us ++ set (blank ∷ replicate k blank) j r) z ∙
    sym (append_assoc us (r ∷ []) (replicate k blank)) ∙ ap (λ (j : ℕ). (us ++ (r ∷ [])) ++ replicate j blank) (sym q)

pub first_set : (rs : List Rule) (n : ℕ) (r : Rule) → AreFirst n rs → n < length rs → length rs ≡ 64 → AreFirst (n + 1) (set rs n r)
first_set rs n r f l e =
    record { there = omega (arith, length-set rs n r); rest = pushed rs n r f.there f.rest (omega (arith, e)) ∙ ap filled (sym (take_more_set rs n r l)) }

abbrev pub laid_fields : Inside → Rule → Inside
laid_fields b r = record { limit = b.limit; bound = b.bound; count = b.count + 1; rules = set b.rules b.count r }

pub laid : (b : Inside) (r : Rule) → Kept b → b.count < b.limit → stands_for (laid_fields b r) ≡ with_rules (stands_for b) (all_meant (take b.count b.rules) ++ (meant r ∷ []))
laid b r k l =
    let c = counted b k in
    let e = ap all_meant (take_more_set b.rules b.count r (omega (arith, c.0, c.1, k.good.few))) ∙ map_push meant (take b.count b.rules) r in
    ap (with_rules (stands_for b)) e

pub laid_kept : (b : Inside) (r : Rule) → Kept b → b.count < b.limit → fine (meant r) ≡ true → Kept (laid_fields b r)
laid_kept b r k l f =
    let c = counted b k in
    let n : b.count < length b.rules = omega (arith, c.0, c.1, k.good.few) in
    let g = good_laid (stands_for b) (meant r) k.good f (omega (arith, c.2)) in
    record {
      good = rw (laid b r k l) g;
      first = first_set b.rules b.count r k.first n c.0;
    }

-- ---- one rule less

-- the array, once the i-th of its first n was turned behind the others, and is blanked there
pub pulled : (rs ys : List Rule) (n i : ℕ) → AreFirst n rs → n ≤ 64 → i < n → ys ≡ drop 1 (mid_of i (n - i) rs) ++ take 1 (mid_of i (n - i) rs) →
    set (put_mid i (n - i) rs ys) (n - 1) blank ≡ filled (remove (take n rs) i)
pulled rs ys n i f l j e =
    let us = take n rs in
    let m : length us ≡ n = length-take-le n rs f.there in
    let x = get_or us i blank in
    let k = 64 - n in
    let p : mid_of i (n - i) rs ≡ x ∷ drop (suc i) us = between_is rs i n ∙ drop-cons us i blank (omega (arith, m)) in
    let y : ys ≡ drop (suc i) us ++ (x ∷ []) = e ∙ ap (λ (t : List Rule). drop 1 t ++ take 1 t) p in
    let s : 64 - length us ≡ k = omega (arith, m) in
    let z : i + (n - i) ≡ n = omega arith in
    let q : drop (n - i) (drop i rs) ≡ replicate k blank =
    drop-drop (n - i) i rs ∙ ap (λ (d : ℕ). drop d rs) z ∙ ap (drop n) f.rest ∙ drop_at us (replicate (64 - length us) blank) n m ∙ ap (λ (d : ℕ). replicate d blank) s in
    let h : length (remove us i) ≡ n - 1 = omega (arith, length-remove us i (omega (arith, m)), m) in
    let a : put_mid i (n - i) rs ys ≡ remove us i ++ (x ∷ replicate k blank) =
    ap (λ (t : List Rule). t ++ (ys ++ drop (n - i) (drop i rs))) (sym (take-take i n rs (omega arith))) ∙ ap (λ (t : List Rule). take i us ++ (t ++ drop (n - i) (drop i rs))) y ∙
    ap (λ (t : List Rule). take i us ++ ((drop (suc i) us ++ (x ∷ [])) ++ t)) q ∙ ap (λ (t : List Rule). take i us ++ t) (append_assoc (drop (suc i) us) (x ∷ []) (replicate k blank)) ∙
    sym (append_assoc (take i us) (drop (suc i) us) (x ∷ replicate k blank)) in
    let o : n - 1 - (n - 1) ≡ 0 = omega arith in
    let b : 64 - length (remove us i) ≡ suc k = omega (arith, h) in
    ap (λ (t : List Rule). set t (n - 1) blank) a ∙ set-append_right (remove us i) (x ∷ replicate k blank) (n - 1) (n - 1) blank h (omega arith) ∙
    ap (λ (d : ℕ). remove us i ++ set (x ∷ replicate k blank) d blank) o ∙ ap (λ (d : ℕ). remove us i ++ replicate d blank) (sym b)

abbrev pub lifted_fields : Inside → List Rule → Inside
lifted_fields b ys = record { limit = b.limit; bound = b.bound; count = b.count - 1; rules = set ys (b.count - 1) blank }

module _ (b : Inside) (i : ℕ) (ys : List Rule) (k : Kept b) (j : i < b.count) (e : set ys (b.count - 1) blank ≡ filled (remove (take b.count b.rules) i)) where
  left : take (b.count - 1) (set ys (b.count - 1) blank) ≡ remove (take b.count b.rules) i
  left =
      let us = take b.count b.rules in
      let m = length-take-le b.count b.rules k.first.there in
      let p = length-remove us i (omega (arith, m)) in
      ap (take (b.count - 1)) e ∙ take_at (remove us i) (replicate (64 - length (remove us i)) blank) (b.count - 1) (omega (arith, p, m))

  pub lifted : stands_for (lifted_fields b ys) ≡ with_rules (stands_for b) (take i (all_meant (take b.count b.rules)) ++ drop (suc i) (all_meant (take b.count b.rules)))
  lifted = ap (with_rules (stands_for b)) (ap all_meant left ∙ meant_lifted (take b.count b.rules) i)

  pub lifted_kept : Kept (lifted_fields b ys)
  lifted_kept =
      let us = take b.count b.rules in
      let m = length-take-le b.count b.rules k.first.there in
      let p = length-remove us i (omega (arith, m)) in
      let n : b.count - 1 ≤ length (set ys (b.count - 1) blank) = omega (arith, ap length e, length-append (remove us i) (replicate (64 - length (remove us i)) blank), p, m) in
      record { good = rw lifted (good_lifted (stands_for b) i k.good); first = record { there = n; rest = e ∙ ap filled (sym left) } }
