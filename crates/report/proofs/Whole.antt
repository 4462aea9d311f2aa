-- A book that is written as its lines, whole, reads as that book.
use Rattle.std.proofs.Common.{◌≡◌, ltb, ℕ, zero, suc, ◌+◌, ◌-◌, ◌<◌, ◌≤◌, Bool, true, false, eqb, leb, List, [], ◌∷◌, ◌++◌, length, get_or, take, codes, Ok, Result, refl, sym, ap, ◌∙◌, append_assoc, length-append, flat_map, inl, inr, arith}
use Rattle.std.specs.List.{All, list_all, slice_split, onto_first}
use Rattle.std.specs.Str.Lines.{lines, lines_of_parts, strip_carriage_return}
use Rattle.std.proofs.lemmas.Bool.{and_parts, le-leb, lt-ltb, ne_eqb, leb-true, cases_Bool}
use Rattle.std.proofs.lemmas.List.Splits.{slice_split_at}
use Rattle.raise.specs.Rules.{Rule, takes, gives, takes_sum, gives_sum, fades}
use Rattle.raise.specs.Calls.{fine, turned, changed}
use Rattle.book.specs.Held.{all_fine}
use Rattle.text.specs.RuleLines.{Says, lays, bounds, line_says, line_text, rule_text}
use Rattle.text.proofs.ReadBack.{reads_back, fine_readable}
use Rattle.text.proofs.Plain.{Plain, bound_plain, rule_plain}
use Rattle.report.specs.Reading.{Draft, Misfit, blank, with_bound, with_rules, with_line, says_of, has_return, without_mark, draft_from, draft, rule_lines, book_text, BooksReadBack}

-- ---- one line, and what follows it

no_return : (l : List ℕ) → list_all (λ c. leb 32 c) l ≡ true → has_return l ≡ false
no_return [] p = refl
no_return (c ∷ cs) p =
    let q = and_parts (leb 32 c) (list_all (λ x. leb 32 x) cs) p in
    let n : eqb c 13 ≡ false = ne_eqb c 13 (λ e. absurd (omega (arith, leb-true 32 c q.0, e))) in
    rw n (no_return cs q.1)

above : (l : List ℕ) → list_all (λ c. leb 32 c) l ≡ true → (k d : ℕ) → k < length l → 32 ≤ get_or l k d
above [] p k d lt = absurd (omega (arith, lt))
above (c ∷ cs) p zero d lt = leb-true 32 c (and_parts (leb 32 c) (list_all (λ x. leb 32 x) cs) p).0
above (c ∷ cs) p (suc k) d lt = above cs (and_parts (leb 32 c) (list_all (λ x. leb 32 x) cs) p).1 k d (omega (arith, lt))

no_newline : (l : List ℕ) → list_all (λ c. leb 32 c) l ≡ true → All (λ c. eqb c 10 ≡ false) l
no_newline l p k d lt = ne_eqb _ 10 (λ e. absurd (omega (arith, above l p k d lt, e)))

not_stripped : (l : List ℕ) → list_all (λ c. leb 32 c) l ≡ true → strip_carriage_return l ≡ l
not_stripped [] p = refl
not_stripped (c ∷ cs) p =
    let a = above (c ∷ cs) p (length cs) 0 (omega arith) in
    let n : eqb (get_or (c ∷ cs) (length cs) 0) 13 ≡ false = ne_eqb _ 13 (λ e. absurd (omega (arith, a, e))) in
    let s : length (c ∷ cs) - 1 ≡ length cs = omega arith in
    rw s (rw n refl)

-- there is always a part more
onto_some : (c : ℕ) (parts : List (List ℕ)) → (y : List ℕ) × (more : List (List ℕ)) × (onto_first c parts ≡ y ∷ more)
onto_some c [] = (c ∷ [], [], refl)
onto_some c (x ∷ parts) = (c ∷ x, parts, refl)

some_part : (bs : List ℕ) → (y : List ℕ) × (more : List (List ℕ)) × (slice_split (λ b. eqb b 10) bs ≡ y ∷ more)
some_part [] = ([], [], refl)
some_part (c ∷ cs) = elim (cases_Bool (eqb c 10)) [
  | inl t ↦ rw t ([], slice_split (λ b. eqb b 10) cs, refl)
  | inr t ↦ rw t (onto_some c (slice_split (λ b. eqb b 10) cs))
]

pub first_line : (l rest : List ℕ) → Plain l → lines (l ++ (10 ∷ rest)) ≡ l ∷ lines rest
first_line l rest p =
    let s = some_part rest in
    let e = slice_split_at (λ b. eqb b 10) l 10 rest (no_newline l p.each) refl in
    rw (e, s.2) (ap (λ x. x ∷ lines_of_parts (s.0 ∷ s.1)) (not_stripped l p.each))

-- ---- rules, one after the other

rule_said : (r : Rule) → fine r ≡ true → says_of (rule_text r) ≡ lays r
rule_said r h = rw (no_return (rule_text r) (rule_plain r (fine_readable r h)).each) (reads_back.in_range r h)

one_laid : (d : Draft) (r : Rule) → fine r ≡ true → length d.rules < 16 → with_line d (lays r) ≡ Ok (with_rules d (d.rules ++ (r ∷ [])))
unfolding turned changed
one_laid d r h lt = let t : ltb (length d.rules) 16 ≡ true = lt-ltb (length d.rules) 16 lt in rw (h, t) refl

-- the first of them, and those to come
begun : (n : ℕ) (d : Draft) (r : Rule) (rs : List Rule) → all_fine (r ∷ rs) ≡ true → length d.rules < 16 →
    draft_from n d (lines (rule_lines (r ∷ rs))) ≡ draft_from (suc n) (with_rules d (d.rules ++ (r ∷ []))) (lines (rule_lines rs))
unfolding draft_from all_fine
begun n d r rs h lt =
    let f = (and_parts (fine r) (all_fine rs) h).0 in
    let p = rule_plain r (fine_readable r f) in
    let e : lines (rule_lines (r ∷ rs)) ≡ rule_text r ∷ lines (rule_lines rs) = ap lines (append_assoc (rule_text r) (codes "\n") (rule_lines rs)) ∙ first_line (rule_text r) (rule_lines rs) p in
    rw e (rw (rule_said r f) (rw (one_laid d r f lt) refl))

all_laid : (n : ℕ) (d : Draft) (r : Rule) (rs : List Rule) → all_fine (r ∷ rs) ≡ true → length d.rules + length (r ∷ rs) ≤ 16 →
    draft_from n d (lines (rule_lines (r ∷ rs))) ≡ Ok (with_rules d (d.rules ++ (r ∷ rs)))
unfolding draft_from all_fine
all_laid n d r [] h few = begun n d r [] h (omega (arith, few)) ∙ refl
all_laid n d r (x ∷ xs) h few =
    let q = and_parts (fine r) (all_fine (x ∷ xs)) h in
    let ok : List Rule → Result Draft Misfit = λ qs. Ok (with_rules d qs) in
    begun n d r (x ∷ xs) h (omega (arith, few)) ∙ all_laid (suc n) (with_rules d (d.rules ++ (r ∷ []))) x xs q.1 (omega (arith, few, length-append d.rules (r ∷ []))) ∙
    ap ok (append_assoc d.rules (r ∷ []) (x ∷ xs))

-- ---- whole books

bound_said : (b : ℕ) → b ≤ 1000000000 → says_of (line_text (bounds b)) ≡ bounds b
bound_said b le = let s : b < 4294967296 = omega (arith, le) in rw (no_return (line_text (bounds b)) (bound_plain b s).each) (reads_back.bounds b s)

one_bound : (b : ℕ) → b ≤ 1000000000 → with_line blank (bounds b) ≡ Ok (with_bound b)
one_bound b le = let t : leb b 1000000000 ≡ true = le-leb b 1000000000 le in rw t refl

after_bound : (b : ℕ) (rs : List Rule) → length rs ≤ 16 → all_fine rs ≡ true → draft_from 2 (with_bound b) (lines (rule_lines rs)) ≡ Ok (with_rules (with_bound b) rs)
unfolding draft_from
after_bound b [] few h = refl
after_bound b (r ∷ rs) few h = all_laid 2 (with_bound b) r rs h (omega (arith, few))

whole : (b : ℕ) (rs : List Rule) → b ≤ 1000000000 → length rs ≤ 16 → all_fine rs ≡ true → draft (book_text b rs) ≡ Ok (with_rules (with_bound b) rs)
unfolding draft_from
whole b rs le few h =
    let e : lines (book_text b rs) ≡ line_text (bounds b) ∷ lines (rule_lines rs) = first_line (line_text (bounds b)) (rule_lines rs) (bound_plain b (omega (arith, le))) in
    let m : without_mark (book_text b rs) ≡ book_text b rs = refl in
    ap (λ (file : List ℕ). draft_from 1 blank (lines file)) m ∙ ap (draft_from 1 blank) e ∙ rw (bound_said b le) (rw (one_bound b le) (after_bound b rs few h))

no_mark : (r : Rule) (more : List ℕ) → without_mark (rule_text r ++ more) ≡ rule_text r ++ more
no_mark (takes a b r) more = refl
no_mark (gives a b r) more = refl
no_mark (takes_sum a b s) more = refl
no_mark (gives_sum a b s) more = refl
no_mark (fades a r s) more = refl

rules_alone : (r : Rule) (rs : List Rule) → length (r ∷ rs) ≤ 16 → all_fine (r ∷ rs) ≡ true → draft (rule_lines (r ∷ rs)) ≡ Ok (with_rules blank (r ∷ rs))
rules_alone r rs few h =
    let a = append_assoc (rule_text r) (codes "\n") (rule_lines rs) in
    let m : without_mark (rule_lines (r ∷ rs)) ≡ rule_lines (r ∷ rs) = ap without_mark a ∙ no_mark r (codes "\n" ++ rule_lines rs) ∙ sym a in
    ap (λ (file : List ℕ). draft_from 1 blank (lines file)) m ∙ all_laid 1 blank r rs h (omega (arith, few))

none_read : draft [] ≡ Ok blank
unfolding draft_from
none_read = refl

pub books_read_back : BooksReadBack
books_read_back = record { whole = whole; rules = rules_alone; none = none_read }
