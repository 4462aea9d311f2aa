-- A book that is written whole after its scratch was.
use Rattle.std.proofs.Common.{◌≡◌, ℕ, ◌-◌, ◌≤◌, true, eqb, List, ◌++◌, length, drop, Some, sym, ap, ◌∙◌, refl, arith}
use borrow.Rule.Slice.PartMut.{put_mid}
use Rattle.std.proofs.lemmas.Slice.{drop-put_mid}
use Rattle.std.proofs.lemmas.Bool.{eq-eqb}
use Rattle.raise.specs.Calls.{Call, Answer, turned}
use Rattle.book.specs.Held.{Book, asked, image, book_of}
use Rattle.session.specs.Memory.{limits, next_in, next_words}
use Rattle.session.specs.Answered.{Accepted}

-- an accepted call: what it wrote to the words [from, to), up to the last word asked for, leaves what is behind
pub written_over : (ws vs us : List ℕ) (from to : ℕ) (b k : Book) (c : Call) (a : Answer) → book_of ws ≡ Some b → Accepted c b k a → from ≤ to → to ≡ asked b.limit → to ≤ length ws →
    length vs ≡ to - from → us ≡ image k ++ drop (asked k.limit) (put_mid from (to - from) ws vs) → us ≡ next_words ws c
written_over ws vs us from to b k c a e i le t fits l w =
    let z : eqb (turned (limits b) b.rules c) 0 ≡ true = eq-eqb _ _ i.admitted in
    let n : asked k.limit ≡ asked b.limit = ap (λ (x : Book). asked x.limit) i.leaves in
    let d : drop (asked k.limit) (put_mid from (to - from) ws vs) ≡ drop (asked b.limit) ws =
    rw n (drop-put_mid from (to - from) ws vs (asked b.limit) (omega (arith, le, t)) (omega (arith, le, fits)) l) in
    w ∙ ap (λ (x : List ℕ). image k ++ x) d ∙ ap (λ (x : Book). image x ++ drop (asked b.limit) ws) i.leaves ∙ sym (ap (next_in ws c) e ∙ rw z refl)
