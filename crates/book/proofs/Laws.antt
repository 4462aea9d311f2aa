-- What was written as an image reads back as that book, and what is read is a good book.
use Rattle.std.proofs.Common.{◌≡◌, ℕ, suc, ◌+◌, ◌-◌, ◌*◌, ◌<◌, ◌≤◌, Bool, true, List, [], ◌∷◌, ◌++◌, length, get_or, take, drop, replicate, Some, None, Option, sym, refl, ap, ◌∙◌, subst, inl, inr, append_assoc, arith}
use Rattle.std.specs.List.{flat_map}
use Rattle.std.proofs.lemmas.List.{length-append, length-replicate, length_push, length-take, length-drop}
use Rattle.std.proofs.lemmas.Bool.{and_parts, cases_Bool}
use Rattle.std.proofs.lemmas.Bool.Decides.{nat_tests}
use Rattle.raise.specs.Rules.{pick, Rule, takes, gives, takes_sum, gives_sum, fades}
use Rattle.raise.specs.Calls.{rule_number, fine}
use Rattle.raise.specs.Promise.{all_below}
use Rattle.raise.proofs.Below.{below_both, below_zeros}
use Rattle.raise.proofs.Picks.{none_some}
use Rattle.book.specs.Held.{Book, Good, Within, with_rules, asked, width, slot, head_words, image, rules_of, opened, head_fine, book_of, all_fine, ReadsBack, HoldsGood, ImagesDiffer}
use Rattle.book.proofs.Places.{slots_long, slots_back, rules_fine, fine_push, fine_lifted}

pub image_long : (b : Book) → Good b → length (image b) ≡ asked b.limit
unfolding image
image_long b g =
    let rs = b.rules in
    let h = head_words b.limit b.bound (length rs) in
    let z = asked b.limit - (4 + width * length rs) in
    length-append (h ++ flat_map slot rs) (replicate z 0) ∙ omega (arith, length-append h (flat_map slot rs), slots_long rs, length-replicate {A = ℕ} z 0, g.room)

pub image_reads : ReadsBack
unfolding book_of image
image_reads b ys g =
    let rs = b.rules in
    let zs = replicate {A = ℕ} (asked b.limit - (4 + width * length rs)) 0 in
    let l : asked b.limit ≤ length (image b ++ ys) = omega (arith, length-append (image b) ys, image_long b g) in
    let few = g.few in
    let low = g.low in
    let room = g.room in
    let h : head_fine (image b ++ ys) ≡ true = grind (arith, nat_tests) in
    let r : rules_of width ((flat_map slot rs ++ zs) ++ ys) (length rs) ≡ Some rs =
    ap (λ (x : List ℕ). rules_of width x (length rs)) (append_assoc (flat_map slot rs) zs ys) ∙ slots_back rs (zs ++ ys) g.fine in
    ap (λ (t : Bool). pick t (opened b.limit b.bound (rules_of width ((flat_map slot rs ++ zs) ++ ys) (length rs))) None) h ∙ ap (opened b.limit b.bound) r

opened_is : (l b : ℕ) (o : Option (List Rule)) (k : Book) → opened l b o ≡ Some k → (rs : List Rule) × (o ≡ Some rs) × (record { limit = l; bound = b; rules = rs } ≡ k)
opened_is l b None k e = none_some k e
opened_is l b (Some rs) k e = (rs, refl, cc)

pub held_good : HoldsGood
unfolding book_of
held_good ws b e =
    elim (cases_Bool (head_fine ws)) [
      | inl t ↦
          let p = opened_is (get_or ws 1 0) (get_or ws 2 0) (rules_of width (drop 4 ws) (get_or ws 3 0)) b (rw t at e) in
          let few : get_or ws 1 0 ≤ 64 = grind (arith, nat_tests) in
          let low : get_or ws 2 0 ≤ 1000000000 = grind (arith, nat_tests) in
          let room : get_or ws 3 0 ≤ get_or ws 1 0 = grind (arith, nat_tests) in
          let long : asked (get_or ws 1 0) ≤ length ws = grind (arith, nat_tests) in
          let s = rules_fine width (drop 4 ws) (get_or ws 3 0) p.0 p.1 in
          let P : Book → Type 0 = λ x. Good x × (asked x.limit ≤ length ws) in
          subst P p.2 (record { few = few; low = low; room = omega (arith, s.1); fine = s.0 }, long)
      | inr t ↦ none_some b (rw t at e)
    ]

pub images_differ : ImagesDiffer
images_differ a b g h e =
    let s : book_of (image a ++ []) ≡ book_of (image b ++ []) = ap (λ (ws : List ℕ). book_of (ws ++ [])) e in
    let f : Some a ≡ Some b = sym (image_reads a [] g) ∙ s ∙ image_reads b [] h in
    cc

-- the rules of a good book are within limits
pub good_within : (b : Book) → Good b → Within b.rules
good_within b g = record { few = omega (arith, g.few, g.room); fine = g.fine }

-- ---- a good book stays good

pub good_laid : (b : Book) (r : Rule) → Good b → fine r ≡ true → length b.rules < b.limit → Good (with_rules b (b.rules ++ (r ∷ [])))
good_laid b r g f l = record { few = g.few; low = g.low; room = omega (arith, length_push b.rules r); fine = fine_push b.rules r g.fine f }

pub good_lifted : (b : Book) (i : ℕ) → Good b → Good (with_rules b (take i b.rules ++ drop (suc i) b.rules))
good_lifted b i g =
    let rs = b.rules in
    let n : length (take i rs ++ drop (suc i) rs) ≤ b.limit = omega (arith, length-append (take i rs) (drop (suc i) rs), length-take i rs, length-drop (suc i) rs, g.room) in
    record { few = g.few; low = g.low; room = n; fine = fine_lifted rs i g.fine }

-- ---- every word of an image has 64 bits

slot_below : (r : Rule) → fine r ≡ true → all_below 18446744073709551616 (slot r) ≡ true
unfolding all_below fine rule_number
slot_below (takes a b r) h = grind (arith, nat_tests)
slot_below (gives a b r) h = grind (arith, nat_tests)
slot_below (takes_sum a b s) h = grind (arith, nat_tests)
slot_below (gives_sum a b s) h = grind (arith, nat_tests)
slot_below (fades a r s) h = grind (arith, nat_tests)

slots_below : (rs : List Rule) → all_fine rs ≡ true → all_below 18446744073709551616 (flat_map slot rs) ≡ true
unfolding all_below all_fine
slots_below [] h = refl
slots_below (r ∷ rs) h = let s = and_parts (fine r) (all_fine rs) h in below_both 18446744073709551616 (slot r) (flat_map slot rs) (slot_below r s.0) (slots_below rs s.1)

head_below : (l b n : ℕ) → l ≤ 64 → b ≤ 1000000000 → n ≤ l → all_below 18446744073709551616 (head_words l b n) ≡ true
unfolding all_below
head_below l b n p q r = grind (arith, nat_tests)

pub image_below : (b : Book) → Good b → all_below 18446744073709551616 (image b) ≡ true
unfolding image
image_below b g =
    let m : ℕ = 18446744073709551616 in
    let h = head_words b.limit b.bound (length b.rules) in
    let z = asked b.limit - (4 + width * length b.rules) in
    below_both m (h ++ flat_map slot b.rules) (replicate z 0)
    (below_both m h (flat_map slot b.rules) (head_below b.limit b.bound (length b.rules) g.few g.low g.room) (slots_below b.rules g.fine))
    (below_zeros m z (omega arith))
