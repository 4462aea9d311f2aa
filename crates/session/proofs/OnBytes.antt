-- Whole sessions on bytes, after an accepted opening on any words.
use Rattle.std.proofs.Common.{◌≡◌, ℕ, zero, suc, ◌<◌, ◌≤◌, true, false, eqb, ltb, List, [], ◌∷◌, ◌++◌, map, length, take, drop, Some, Option, sym, refl, ap, ◌∙◌, inl, inr, arith}
use Rattle.std.specs.List.{AllByRecursion}
use Rattle.std.proofs.lemmas.List.{take_at, drop_at}
use Rattle.std.proofs.lemmas.Bool.{cases_Bool, and_from, lt-ltb, ltb-true}
use Rattle.std.proofs.lemmas.Bool.Decides.{nat_tests}
use Rattle.raise.specs.Rules.{Rule, all_plus, all_minus, safe_from}
use Rattle.raise.specs.Calls.{Call, Answer, Limits, lays, lifts, left_of, next_row, safe, garbled, refused, number, two, turned, place, told, answer, answers}
use Rattle.raise.specs.Promise.{readable, all_below, ran}
use Rattle.raise.specs.Laws.{RowTold, SafeTold}
use Rattle.raise.proofs.Rows.{row_stands}
use Rattle.raise.proofs.Search.{safe_told}
use Rattle.wire.specs.CallBytes.{call_of}
use Rattle.wire.specs.AnswerBytes.{answer_bytes, answer_of, sayable}
use Rattle.wire.proofs.CallLaws.{only_calls_read}
use Rattle.wire.proofs.AnswerLaws.{answers_read_back}
use Rattle.book.specs.Held.{Book, Good, asked, image}
use Rattle.book.proofs.Laws.{image_long, image_below, good_within}
use Rattle.book.proofs.Sums.{amounts_fit}
use Rattle.session.specs.Memory.{opening, open_words, empty, limits, says_words, next_words, told_words, left_words}
use Rattle.session.specs.Bytes.{told_bytes, left_bytes, RightBytes, ReadBackBytes, RefusalKeepsBytes, EnoughMemoryBytes}
use Rattle.session.proofs.Steps.{book_after, book_ran}
use Rattle.session.proofs.Runs.{good_after, good_ran, good_empty, left_behind, keeps_later, accepted, told_opened, same_limits}

told_as_bytes : (ws : List ℕ) (bss : List (List ℕ)) → told_bytes ws bss ≡ map answer_bytes (told_words ws (map call_of bss))
unfolding told_bytes told_words
told_as_bytes ws [] = refl
told_as_bytes ws (bs ∷ bss) = ap (λ (xs : List (List ℕ)). answer_bytes (says_words ws (call_of bs)) ∷ xs) (told_as_bytes (next_words ws (call_of bs)) bss)

left_as_bytes : (ws : List ℕ) (bss : List (List ℕ)) → left_bytes ws bss ≡ left_words ws (map call_of bss)
unfolding left_bytes left_words
left_as_bytes ws [] = refl
left_as_bytes ws (bs ∷ bss) = left_as_bytes (next_words ws (call_of bs)) bss

-- the memory after bytes that were served
stays : (ws : List ℕ) (l : Limits) (bss : List (List ℕ)) → opening ws l ≡ number 0 → left_bytes (open_words ws l) bss ≡ left_words (image (empty l) ++ drop (asked l.rules) ws) (map call_of bss)
stays ws l bss a = left_as_bytes (open_words ws l) bss ∙ ap (λ (us : List ℕ). left_words us (map call_of bss)) (accepted ws l a).1

told_all : (ws : List ℕ) (l : Limits) (bss : List (List ℕ)) → opening ws l ≡ number 0 → told_bytes (open_words ws l) bss ≡ map answer_bytes (answers (limits (empty l)) [] (map call_of bss))
told_all ws l bss a = told_as_bytes (open_words ws l) bss ∙ ap (map answer_bytes) (told_opened ws l (map call_of bss) a)

pub right_bytes : RightBytes
right_bytes ws l bss e a = told_all ws l bss a ∙ ap (λ (m : Limits). map answer_bytes (answers m [] (map call_of bss))) (same_limits l e)

pub refusal_keeps_bytes : RefusalKeepsBytes
refusal_keeps_bytes ws l bss bs e a t =
    let u : 0 < turned (limits (empty l)) (ran (limits (empty l)) [] (map call_of bss)) (call_of bs) = rw (same_limits l e) t in
    let s = stays ws l bss a in
    ap (λ (us : List ℕ). next_words us (call_of bs)) s ∙ keeps_later (empty l) (drop (asked l.rules) ws) (map call_of bss) (call_of bs) (good_empty l (accepted ws l a).0) u ∙ sym s

pub enough_memory_bytes : EnoughMemoryBytes
enough_memory_bytes ws l bss a =
    let n = asked l.rules in
    let ys = drop n ws in
    let e = good_empty l (accepted ws l a).0 in
    let b = book_ran (empty l) (map call_of bss) in
    let g = good_ran (empty l) (map call_of bss) e in
    let s : left_bytes (open_words ws l) bss ≡ image b ++ ys = stays ws l bss a ∙ left_behind (empty l) ys (map call_of bss) e in
    let t : take n (image b ++ ys) ≡ image b = take_at (image b) ys n (image_long b g) in
    let d : drop n (image b ++ ys) ≡ ys = drop_at (image b) ys n (image_long b g) in
    (omega arith, ap (λ (us : List ℕ). all_below 18446744073709551616 (take n us)) s ∙ ap (all_below 18446744073709551616) t ∙ image_below b g, ap (drop n) s ∙ d)

-- ---- every answer fits its bytes

refusal_sayable : (l : Limits) (rs : List Rule) (c : Call) → readable c ≡ true → eqb (turned l rs c) 0 ≡ false → sayable (refused (turned l rs c) (place c (turned l rs c))) ≡ true
unfolding readable turned place
refusal_sayable l rs (lays r) f t = grind (arith, nat_tests)
refusal_sayable l rs (lifts i) f t = grind (arith, nat_tests)
refusal_sayable l rs (left_of g) f t = grind (arith, nat_tests)
refusal_sayable l rs (next_row g) f t = grind (arith, nat_tests)
refusal_sayable l rs (safe g) f t = grind (arith, nat_tests)
refusal_sayable l rs (garbled n) f t = lt-ltb n 18446744073709551616 (omega (arith, ltb-true n 4294967296 f))

two_fit : (m n : ℕ) → m < 18446744073709551616 → n < 18446744073709551616 → sayable (two m n) ≡ true
two_fit m n p q = and_from (ltb m 18446744073709551616) (ltb n 18446744073709551616) (lt-ltb m 18446744073709551616 p) (lt-ltb n 18446744073709551616 q)

row_sayable : (rs : List Rule) (b g : ℕ) (a : Answer) → b ≤ 1000000000 → RowTold rs b g a → sayable a ≡ true
row_sayable rs b g a low (inl p) = ap sayable p.0
row_sayable rs b g a low (inr p) = ap sayable p.2 ∙ two_fit (suc p.0) (suc p.1) (omega (arith, p.3.in_order, p.3.below_bound)) (omega (arith, p.3.below_bound))

safe_sayable : (rs : List Rule) (b g n : ℕ) → b ≤ 1000000000 → SafeTold rs b g n → n < 18446744073709551616
safe_sayable rs b g zero low t = omega arith
safe_sayable rs b g (suc h) low t = omega (arith, t.1)

told_sayable : (b : Book) (c : Call) → Good b → readable c ≡ true → sayable (told (limits b) b.rules c) ≡ true
unfolding readable told
told_sayable b (lays r) g f = lt-ltb (length b.rules) 18446744073709551616 (omega (arith, g.few, g.room))
told_sayable b (lifts i) g f = lt-ltb i 18446744073709551616 (omega (arith, ltb-true i 4294967296 f))
told_sayable b (left_of x) g f =
    let a = amounts_fit b.rules x (good_within b g) (ltb-true x 4294967296 f) in
    two_fit (all_plus b.rules x) (all_minus b.rules x) (omega (arith, a.0)) (omega (arith, a.1))
told_sayable b (next_row x) g f = row_sayable b.rules b.bound x (told (limits b) b.rules (next_row x)) g.low (row_stands (limits b) b.rules x)
told_sayable b (safe x) g f = lt-ltb (safe_from b.rules b.bound x) 18446744073709551616 (safe_sayable b.rules b.bound x (safe_from b.rules b.bound x) g.low (safe_told b.rules b.bound x))
told_sayable b (garbled n) g f = refl

answer_sayable : (b : Book) (c : Call) → Good b → readable c ≡ true → sayable (answer (limits b) b.rules c) ≡ true
answer_sayable b c g f =
    elim (cases_Bool (eqb (turned (limits b) b.rules c) 0)) [
      | inl t ↦ rw t (told_sayable b c g f)
      | inr t ↦ rw t (refusal_sayable (limits b) b.rules c f t)
    ]

back_each : (b : Book) (bss : List (List ℕ)) → Good b → AllByRecursion (λ bs. all_below 256 bs ≡ true) bss →
    map answer_of (map answer_bytes (answers (limits b) b.rules (map call_of bss))) ≡ map Some (answers (limits b) b.rules (map call_of bss))
unfolding answers
back_each b [] g f = refl
back_each b (bs ∷ bss) g f =
    let c = call_of bs in
    let k = book_after b c in
    let e = answers_read_back (answer (limits b) b.rules c) (answer_sayable b c g (only_calls_read bs f.0).0) in
    let i = back_each k bss (good_after b c g) f.1 in
    ap (λ (o : Option Answer). o ∷ map answer_of (map answer_bytes (answers (limits k) k.rules (map call_of bss)))) e ∙ ap (λ (os : List (Option Answer)). Some (answer (limits b) b.rules c) ∷ os) i

pub read_back_bytes : ReadBackBytes
read_back_bytes ws l bss e a f =
    ap (map answer_of) (told_all ws l bss a) ∙ back_each (empty l) bss (good_empty l (accepted ws l a).0) f ∙ ap (λ (m : Limits). map Some (answers m [] (map call_of bss))) (same_limits l e)
