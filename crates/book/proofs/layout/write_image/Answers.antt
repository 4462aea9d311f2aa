use Rattle.std.proofs.Common.{◌≡◌, ℕ, ◌+◌, ◌-◌, ◌*◌, ◌<◌, ◌≤◌, List, ◌++◌, length, take, drop, replicate, sym, ap, ◌∙◌, arith}
use borrow.Rule.Slice.PartMut.{put_mid}
use Rattle.std.specs.List.{flat_map}
use Rattle.std.proofs.lemmas.List.Edits.{length-between}
use Rattle.std.proofs.lemmas.List.{length-append, length-map, length-take-le, take_all}
use Rattle.std.proofs.lemmas.Slice.{drop-put_mid}
use Rattle.book.proofs.Writes.{put_more}
use Rattle.wire.specs.Meaning.{meant}
use Rattle.book.specs.Held.{asked, head_words, slot, width, image}
use Rattle.book.specs.Meant.{all_meant}
use Rattle.book.proofs.Places.{slots_long, slots_more}
use Rattle.book.proofs.layout.write_image.Goals as goal

pub loop-i-preserved : goal.loop-i-preserved
loop-i-preserved c =
    let i = c.loop-i.i in
    let rules = c.args.rules.now in
    let es = put_mid 0 (4 - 0) c.args.words.now c.copy_from_slice.new.self in
    let v = c.copy_from_slice-in-loop-i.new.self in
    let rs = all_meant (take i rules) in
    let h = head_words c.args.limit c.args.bound (length rules) in
    let p = h ++ flat_map slot rs in
    let k = 4 + width * i in
    let l : i < length rules = omega arith in
    let n : length p ≡ k = omega (arith, length-append h (flat_map slot rs), slots_long rs, length-map (take i rules) meant, length-take-le i rules (omega arith)) in
    let s : k + width ≡ 4 + width * (i + 1) = omega arith in
    put_more p es c.loop-i.words v k (k + width) c.loop-i.invariant n (omega arith) ∙
    ap (λ (x : List ℕ). (p ++ x) ++ drop (k + width) es) (c.copy_from_slice-in-loop-i.ensures.after ∙ c.slot_of.ensures) ∙
    ap (λ (x : List ℕ). x ++ drop (k + width) es) (slots_more slot h rules i _ l) ∙
    ap (λ (j : ℕ). (h ++ flat_map slot (all_meant (take (i + 1) rules))) ++ drop j es) s

pub returns : goal.returns
unfolding image
returns c =
    let ws = c.args.words.now in
    let us = c.loop-i.words in
    let rules = c.args.rules.now in
    let n = length rules in
    let k = 4 + width * n in
    let a = asked c.args.limit in
    let es = put_mid 0 (4 - 0) ws c.copy_from_slice.new.self in
    let rs = all_meant rules in
    let h = head_words c.args.limit c.args.bound n ++ flat_map slot rs in
    let i : c.loop-i.i ≡ n = omega arith in
    let e : c.words_asked.result ≡ a = c.words_asked.ensures.value in
    let m : length rs ≡ n = length-map rules meant in
    let g : n ≤ c.args.limit = c.requires.room in
    let l : a ≤ length ws = c.requires.long in
    let p : us ≡ h ++ drop k es = rw (i, take_all n rules (omega arith)) at c.loop-i.invariant in
    let q : length h ≡ k = omega (arith, length-append (head_words c.args.limit c.args.bound n) (flat_map slot rs), slots_long rs) in
    let z : length (take (a - k) (drop k us)) ≡ a - k = length-between us k a (omega (arith, l)) in
    rw e (put_more h es us c.fill.new.self k a p q (omega (arith, g))) ∙
    ap (λ (x : List ℕ). (h ++ x) ++ drop a es) (c.fill.ensures.after (λ y f. f) ∙ ap (λ (x : ℕ). replicate x 0) (rw e z)) ∙
    ap (λ (x : List ℕ). (h ++ replicate (a - k) 0) ++ x) (drop-put_mid 0 (4 - 0) ws c.copy_from_slice.new.self a (omega arith) (omega (arith, l)) (ap length c.copy_from_slice.ensures.after)) ∙
    ap (λ (x : ℕ). ((head_words c.args.limit c.args.bound x ++ flat_map slot rs) ++ replicate (a - (4 + width * x)) 0) ++ drop a ws) (sym m)
