-- Whole sessions: what the contracts of open and call say of one step, over every list of calls.
use Rattle.std.proofs.Common.{◌≡◌, ℕ, zero, suc, ◌+◌, ◌*◌, ◌<◌, ◌≤◌, Bool, true, false, eqb, ltb, List, [], ◌∷◌, ◌++◌, length, drop, replicate, sym, refl, ap, ◌∙◌, subst, inl, inr, arith}
use Rattle.std.proofs.lemmas.List.{append-nil, drop_at, drop_all, length-replicate}
use Rattle.std.proofs.lemmas.Bool.{cases_Bool, le-ltb, ltb-false}
use Rattle.std.proofs.lemmas.Bool.Decides.{nat_tests}
use Rattle.raise.specs.Rules.{Rule}
use Rattle.raise.specs.Calls.{Call, Answer, Limits, lays, lifts, left_of, next_row, safe, garbled, number, fine, turned, changed, told, row_from, answer, answers}
use Rattle.raise.specs.Promise.{Memory, GoodLimits, told_by, left_by, ran, whole, all_below, Right, RefusalKeeps, EnoughMemory}
use Rattle.book.specs.Held.{Book, Good, asked, image, with_rules, all_fine}
use Rattle.book.proofs.Laws.{good_laid, good_lifted, image_long, image_below}
use Rattle.session.proofs.Steps.{book_after, book_ran, next_behind, says_behind, keeps_behind}
use Rattle.session.proofs.Rows.{tells_all}
use Rattle.session.proofs.Safe.{tells_safe}
use Rattle.session.specs.Rows.{TellsAllRows, AllRows}
use Rattle.session.specs.Safe.{TellsSafe, AllSafe}
use Rattle.session.specs.Memory.{limited, opening, empty, open_words, opened_words, limits, says_words, next_words, desk, told_words, left_words, is_three, unless_refused, Serves, Opened, Suffices}

-- ---- a good book stays good

-- if the changed book is good where the call is accepted, the book after it is
by_acceptance : (b : Book) (c : Call) → Good b → (eqb (turned (limits b) b.rules c) 0 ≡ true → Good (with_rules b (changed b.rules c))) → Good (book_after b c)
by_acceptance b c g k = elim (cases_Bool (eqb (turned (limits b) b.rules c) 0)) [ inl t ↦ rw t (k t) | inr t ↦ rw t g ]

pub good_after : (b : Book) (c : Call) → Good b → Good (book_after b c)
unfolding turned changed
good_after b (lays r) g =
    by_acceptance b (lays r) g
    (λ t. let f : fine r ≡ true = grind (arith, nat_tests) in let l : length b.rules < b.limit = grind (arith, nat_tests) in good_laid b r g f l)
good_after b (lifts i) g = by_acceptance b (lifts i) g (λ t. good_lifted b i g)
good_after b (left_of x) g = by_acceptance b (left_of x) g (λ t. g)
good_after b (next_row x) g = by_acceptance b (next_row x) g (λ t. g)
good_after b (safe x) g = by_acceptance b (safe x) g (λ t. g)
good_after b (garbled n) g = by_acceptance b (garbled n) g (λ t. g)

pub good_ran : (b : Book) (cs : List Call) → Good b → Good (book_ran b cs)
unfolding ran
good_ran b [] g = g
good_ran b (c ∷ cs) g = good_ran (book_after b c) cs (good_after b c g)

-- ---- and lists of calls

pub left_behind : (b : Book) (ys : List ℕ) (cs : List Call) → Good b → left_words (image b ++ ys) cs ≡ image (book_ran b cs) ++ ys
unfolding left_words ran
left_behind b ys [] g = refl
left_behind b ys (c ∷ cs) g = ap (λ (ws : List ℕ). left_words ws cs) (next_behind b ys c g) ∙ left_behind (book_after b c) ys cs (good_after b c g)

told_behind : (b : Book) (ys : List ℕ) (cs : List Call) → Good b → told_words (image b ++ ys) cs ≡ answers (limits b) b.rules cs
unfolding told_words answers
told_behind b ys [] g = refl
told_behind b ys (c ∷ cs) g =
    ap (λ (ws : List ℕ). says_words (image b ++ ys) c ∷ told_words ws cs) (next_behind b ys c g) ∙
    ap (λ (a : Answer). a ∷ told_words (image (book_after b c) ++ ys) cs) (says_behind b ys c g) ∙
    ap (λ (xs : List Answer). answer (limits b) b.rules c ∷ xs) (told_behind (book_after b c) ys cs (good_after b c g))

-- after a list of calls, one that is turned away changes nothing
pub keeps_later : (b : Book) (ys : List ℕ) (cs : List Call) (c : Call) → Good b → 0 < turned (limits b) (ran (limits b) b.rules cs) c →
    next_words (left_words (image b ++ ys) cs) c ≡ left_words (image b ++ ys) cs
keeps_later b ys cs c g h =
    let e = left_behind b ys cs g in
    ap (λ (ws : List ℕ). next_words ws c) e ∙ keeps_behind (book_ran b cs) ys c (good_ran b cs g) h ∙ sym e

-- ---- 3 is no answer of the written book

not_three : (l : Limits) (rs : List Rule) (c : Call) → eqb (turned l rs c) 3 ≡ false
unfolding turned
not_three l rs (lays r) = grind (arith, nat_tests)
not_three l rs (lifts i) = grind (arith, nat_tests)
not_three l rs (left_of g) = grind (arith, nat_tests)
not_three l rs (next_row g) = grind (arith, nat_tests)
not_three l rs (safe g) = grind (arith, nat_tests)
not_three l rs (garbled n) = refl

row_not_three : (l : Limits) (rs : List Rule) (n : ℕ) → is_three (row_from l rs n) ≡ false
unfolding row_from
row_not_three l rs zero = refl
row_not_three l rs (suc n) = refl

told_not_three : (l : Limits) (rs : List Rule) (c : Call) → is_three (told l rs c) ≡ false
unfolding told
told_not_three l rs (lays r) = refl
told_not_three l rs (lifts i) = refl
told_not_three l rs (left_of g) = refl
told_not_three l rs (next_row g) = row_not_three l rs _
told_not_three l rs (safe g) = refl
told_not_three l rs (garbled n) = refl

answer_not_three : (l : Limits) (rs : List Rule) (c : Call) → is_three (answer l rs c) ≡ false
answer_not_three l rs c = elim (cases_Bool (eqb (turned l rs c) 0)) [ inl t ↦ rw t (told_not_three l rs c) | inr t ↦ rw t (not_three l rs c) ]

-- ---- an opening on any words

pub good_empty : (l : Limits) → GoodLimits l → Good (empty l)
unfolding all_fine
good_empty l h = record { few = h.0; low = h.1; room = omega arith; fine = refl }

serves : (ws : List ℕ) (rules bound : ℕ) → rules ≤ 64 → bound ≤ 1000000000 → Serves (limited rules bound) ws (image (empty (limited rules bound)) ++ drop (asked rules) ws)
serves ws rules bound few low =
    let l = limited rules bound in
    let b = empty l in
    let g : Good b = good_empty l (few, low) in
    let ys = drop (asked rules) ws in
    record {
      right = λ cs. told_behind b ys cs g;
      rows = λ cs. rw (left_behind b ys cs g) (tells_all (book_ran b cs) ys (good_ran b cs g));
      safe = λ cs. rw (left_behind b ys cs g) (tells_safe (book_ran b cs) ys (good_ran b cs g));
      no_three = λ cs c. ap (λ (us : List ℕ). is_three (says_words us c)) (left_behind b ys cs g) ∙ ap is_three (says_behind (book_ran b cs) ys c (good_ran b cs g)) ∙ answer_not_three (limits b) (ran l [] cs) c;
      keeps = λ cs c h. keeps_later b ys cs c g h;
      behind = λ cs. ap (drop (asked rules)) (left_behind b ys cs g) ∙ drop_at (image (book_ran b cs)) ys (asked rules) (image_long (book_ran b cs) (good_ran b cs g));
    }

pub opened : (ws : List ℕ) (rules bound : ℕ) → Opened (limited rules bound) (opening ws (limited rules bound)) ws (open_words ws (limited rules bound))
opened ws rules bound =
    elim (cases_Bool (ltb 64 rules)) [
      | inl t ↦ rw t refl
      | inr t ↦ elim (cases_Bool (ltb 1000000000 bound)) [
        | inl u ↦ rw (t, u) refl
        | inr u ↦ elim (cases_Bool (ltb (length ws) (asked rules))) [
          | inl v ↦ rw (t, u, v) refl
          | inr v ↦ rw (t, u, v) (serves ws rules bound (ltb-false 64 rules t) (ltb-false 1000000000 bound u))
        ]
      ]
    ]

-- limits and words that an opening accepts
pub accepted : (ws : List ℕ) (l : Limits) → opening ws l ≡ number 0 → GoodLimits l × (open_words ws l ≡ image (empty l) ++ drop (asked l.rules) ws)
accepted ws l e =
    let few : l.rules ≤ 64 = grind (arith, nat_tests) in
    let low : l.bound ≤ 1000000000 = grind (arith, nat_tests) in
    ((few, low), ap (λ (a : Answer). unless_refused a (image (empty l) ++ drop (asked l.rules) ws) ws) e)

pub suffices : (ws : List ℕ) (l : Limits) → Suffices l ws (opening ws l)
suffices ws l few low long =
    let a = le-ltb 64 l.rules few in
    let b = le-ltb 1000000000 l.bound low in
    let c = le-ltb (length ws) (asked l.rules) (omega arith) in
    rw (a, b, c) refl

-- what is told after an accepted opening
pub told_opened : (ws : List ℕ) (l : Limits) (cs : List Call) → opening ws l ≡ number 0 → told_words (open_words ws l) cs ≡ answers (limits (empty l)) [] cs
told_opened ws l cs a =
    let p = accepted ws l a in
    ap (λ (us : List ℕ). told_words us cs) p.1 ∙ told_behind (empty l) (drop (asked l.rules) ws) cs (good_empty l p.0)

-- ---- the desk

told_desk : (ws : List ℕ) (cs : List Call) → told_by desk (record { words = ws }) cs ≡ told_words ws cs
unfolding told_by told_words
told_desk ws [] = refl
told_desk ws (c ∷ cs) = ap (λ (xs : List Answer). says_words ws c ∷ xs) (told_desk (next_words ws c) cs)

left_desk : (ws : List ℕ) (cs : List Call) → left_by desk (record { words = ws }) cs ≡ record { words = left_words ws cs }
unfolding left_by left_words
left_desk ws [] = refl
left_desk ws (c ∷ cs) = left_desk (next_words ws c) cs

-- a book that is opened in just the words that it asks for is its image, with nothing behind it
opened_image : (l : Limits) → GoodLimits l → opened_words l ≡ image (empty l) ++ []
opened_image l h =
    let zs = replicate {A = ℕ} (asked l.rules) 0 in
    let n : length zs ≡ asked l.rules = length-replicate (asked l.rules) 0 in
    let a = le-ltb 64 l.rules h.0 in
    let b = le-ltb 1000000000 l.bound h.1 in
    let c = le-ltb (length zs) (asked l.rules) (omega arith) in
    let d : drop (asked l.rules) zs ≡ [] = drop_all (asked l.rules) zs (omega arith) in
    rw (a, b, c, d) refl

-- the limits of an opened book are those that it was opened with
pub same_limits : (l : Limits) → l.rules_can ≡ whole → limits (empty l) ≡ l
same_limits l e = ap (λ (k : ℕ → Bool). record { rules_can = k; rules = l.rules; bound = l.bound }) (sym e)

pub right : Right whole desk
right l cs h e r =
    told_desk (opened_words l) cs ∙ ap (λ (ws : List ℕ). told_words ws cs) (opened_image l h) ∙
    told_behind (empty l) [] cs (good_empty l h) ∙ ap (λ (m : Limits). answers m [] cs) (same_limits l e)

left_opened : (l : Limits) (cs : List Call) → GoodLimits l → left_by desk (desk.opened l) cs ≡ record { words = left_words (image (empty l) ++ []) cs }
left_opened l cs h = left_desk (opened_words l) cs ∙ ap (λ (ws : List ℕ). record { words = left_words ws cs }) (opened_image l h)

pub refusal_keeps : RefusalKeeps whole desk
refusal_keeps l cs c h e r t =
    let d = left_opened l cs h in
    let u : 0 < turned (limits (empty l)) (ran (limits (empty l)) [] cs) c = rw (same_limits l e) t in
    ap (λ (m : Memory). desk.next m c) d ∙ ap (λ (ws : List ℕ). record { words = ws }) (keeps_later (empty l) [] cs c (good_empty l h) u) ∙ sym d

-- what is told on every image is told after every list of calls
after_calls : (T : Memory → List Rule → ℕ → Type 0) → ((b : Book) → Good b → T (record { words = image b ++ [] }) b.rules b.bound) →
    (l : Limits) (cs : List Call) → GoodLimits l → l.rules_can ≡ whole → T (left_by desk (desk.opened l) cs) (ran l [] cs) l.bound
after_calls T tells l cs h e =
    let d = left_opened l cs h ∙ ap (λ (ws : List ℕ). record { words = ws }) (left_behind (empty l) [] cs (good_empty l h)) in
    let z : ran (limits (empty l)) [] cs ≡ ran l [] cs = ap (λ (k : Limits). ran k [] cs) (same_limits l e) in
    rw (d, ← z) (tells (book_ran (empty l) cs) (good_ran (empty l) cs (good_empty l h)))

pub all_rows : AllRows whole desk
all_rows l cs h e = after_calls (TellsAllRows desk) (λ b g. tells_all b [] g) l cs h e

pub all_safe : AllSafe whole desk
all_safe l cs h e = after_calls (TellsSafe desk) (λ b g. tells_safe b [] g) l cs h e

pub enough_memory : EnoughMemory desk
enough_memory l cs h r =
    let P : Memory → Type 0 = λ m. (length m.words ≤ 64 * l.rules + 256) × (all_below 18446744073709551616 m.words ≡ true) in
    let b = book_ran (empty l) cs in
    let g = good_ran (empty l) cs (good_empty l h) in
    let e : left_words (image (empty l) ++ []) cs ≡ image b = left_behind (empty l) [] cs (good_empty l h) ∙ append-nil (image b) in
    subst P (sym (left_opened l cs h ∙ ap (λ (ws : List ℕ). record { words = ws }) e)) (omega (arith, image_long b g), image_below b g)
