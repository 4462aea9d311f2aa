-- Writes of parts, one behind the other.
use Rattle.std.proofs.Common.{◌≡◌, ℕ, ◌+◌, ◌-◌, ◌≤◌, List, ◌++◌, length, take, drop, sym, ap, ◌∙◌, append_assoc, arith}
use borrow.Rule.Slice.PartMut.{put_mid}
use Rattle.std.proofs.lemmas.List.{take_at, drop_at, drop-drop}

-- after a write of v to s[k..j], where s was p and then what es has from k on
pub put_more : (p es ws v : List ℕ) (k j : ℕ) → ws ≡ p ++ drop k es → length p ≡ k → k ≤ j → put_mid k (j - k) ws v ≡ (p ++ v) ++ drop j es
put_more p es ws v k j e l h =
    let t : take k ws ≡ p = ap (take k) e ∙ take_at p (drop k es) k l in
    let d : drop k ws ≡ drop k es = ap (drop k) e ∙ drop_at p (drop k es) k l in
    let s : k + (j - k) ≡ j = omega arith in
    let q : drop (j - k) (drop k ws) ≡ drop j es = ap (drop (j - k)) d ∙ drop-drop (j - k) k es ∙ ap (λ (n : ℕ). drop n es) s in
    ap (λ (x : List ℕ). x ++ (v ++ drop (j - k) (drop k ws))) t ∙ ap (λ (x : List ℕ). p ++ (v ++ x)) q ∙ sym (append_assoc p v (drop j es))
