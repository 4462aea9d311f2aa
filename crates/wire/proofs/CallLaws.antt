-- Calls are read back from their bytes, nothing else is read as a call, and the place of a refusal is right.
use Rattle.std.proofs.Common.{◌≡◌, ℕ, zero, suc, ◌+◌, ◌-◌, ◌<◌, ◌≤◌, true, false, ◌&&◌, eqb, ltb, ◌⊎◌, List, flat_map, append-nil, [], ◌∷◌, ◌++◌, length, get_or, take, replicate, Ok, Err, Result, sym, refl, ap, ◌∙◌, subst, inl, inr, arith}
use Rattle.std.proofs.lemmas.List.{take_all, length-append, length-replicate, length-take-le}
use Rattle.std.proofs.lemmas.Bool.Decides.{nat_tests}
use Rattle.std.proofs.lemmas.Bool.{and_parts, lt-ltb, le-ltb, ltb-true, true≢false, cases_order, cases_lt}
use Rattle.raise.specs.Rules.{pick, Rule, takes, gives, takes_sum, gives_sum, fades}
use Rattle.raise.specs.Calls.{Call, lays, lifts, left_of, next_row, safe, garbled, rule_number}
use Rattle.raise.specs.Promise.{field, readable, readable_rule, all_below}
use Rattle.raise.proofs.Below.{below_take, below_both, below_zeros}
use Rattle.wire.specs.Fields.{bytes_of, number_of, number_at}
use Rattle.wire.specs.CallBytes.{three, numbers, rule_fields, rule_bytes, call_bytes, sized, rule_from, rule_of, laid, one_field, with_field, call_of, is_garbled, Writable, CallsReadBack, CallsDiffer, OnlyCallsRead, Begins, PlaceRight}
use Rattle.wire.proofs.Numbers.{bytes_long, number_back, bytes_back, number_below, row_long, row_first, row_second, row_third, row_back, number_fits}

-- ---- bytes by their number

size_same : {A : Type 0} (k : ℕ) (bs : List ℕ) (x : A) (f : ℕ → A) → length bs ≡ k → sized k bs x f ≡ x
size_same k bs x f l = grind (arith, nat_tests)

size_cases : {A : Type 0} (P : A → Type 0) (k : ℕ) (bs : List ℕ) (x : A) (f : ℕ → A) → (length bs ≡ k → P x) → (length bs < k → P (f (length bs))) → (k < length bs → P (f k)) → P (sized k bs x f)
size_cases P k bs x f same short over =
    elim (cases_order (length bs) k) [
      | inl e ↦ subst P (sym (size_same k bs x f e)) (same e)
      | inr (inl l) ↦ let s : ltb (length bs) k ≡ true = lt-ltb (length bs) k l in rw s (short l)
      | inr (inr l) ↦ let s : ltb (length bs) k ≡ false = le-ltb (length bs) k (omega arith) in let t : ltb k (length bs) ≡ true = lt-ltb k (length bs) l in rw (s, t) (over l)
    ]

-- ---- what is read, by the first byte

abbrev by_kind : ℕ → List ℕ → Call
by_kind b xs =
    pick (eqb b 0) (laid (rule_of xs))
    (pick (eqb b 1) (with_field lifts (one_field (b ∷ xs)))
    (pick (eqb b 2) (with_field left_of (one_field (b ∷ xs)))
    (pick (eqb b 3) (with_field next_row (one_field (b ∷ xs)))
    (pick (eqb b 4) (with_field safe (one_field (b ∷ xs))) (garbled 0)))))

at_kind : (b : ℕ) (xs : List ℕ) → call_of (b ∷ xs) ≡ by_kind b xs
at_kind b xs = grind (arith, nat_tests)

no_kind : (b : ℕ) (xs : List ℕ) → 4 < b → call_of (b ∷ xs) ≡ garbled 0
no_kind b xs l = grind (arith, nat_tests)

-- ---- rules

abbrev whole_rule : ℕ → List ℕ → Rule
whole_rule k xs = rule_from k (number_of (take 4 xs)) (number_at 4 xs 4) (number_at 4 xs 8)

rule_known : (k : ℕ) (xs : List ℕ) → k ≤ 4 → rule_of (k ∷ xs) ≡ sized {A = Result Rule ℕ} 13 (k ∷ xs) (Ok (whole_rule k xs)) (λ n. Err n)
rule_known k xs l = grind (arith, nat_tests)

rule_high : (k : ℕ) (xs : List ℕ) → 4 < k → rule_of (k ∷ xs) ≡ Err 0
rule_high k xs l = grind (arith, nat_tests)

rule_whole : (k : ℕ) (xs : List ℕ) → k ≤ 4 → length xs ≡ 12 → call_of (0 ∷ k ∷ xs) ≡ lays (whole_rule k xs)
rule_whole k xs l e = at_kind 0 (k ∷ xs) ∙ ap laid (rule_known k xs l ∙ size_same 13 (k ∷ xs) (Ok (whole_rule k xs)) (λ n. Err n) (omega arith))

-- a rule is written by its kind and its three numbers
rule_parts : (k a b c : ℕ) → k ≤ 4 → (rule_bytes (rule_from k a b c) ≡ k ∷ three a b c) × (readable_rule (rule_from k a b c) ≡ (field a && (field b && field c)))
unfolding rule_number readable_rule
rule_parts k a b c l = grind (arith, nat_tests)

three_flat : (a b c : ℕ) → flat_map (bytes_of 4) (a ∷ (b ∷ (c ∷ []))) ≡ three a b c
three_flat a b c = ap (λ xs. bytes_of 4 a ++ (bytes_of 4 b ++ xs)) (append-nil (bytes_of 4 c))

-- as bytes these are the rule's fields
pub fields_flat : (r : Rule) → flat_map (bytes_of 4) (numbers r) ≡ rule_fields r
fields_flat (takes a b r) = three_flat a b r
fields_flat (gives a b r) = three_flat a b r
fields_flat (takes_sum a b s) = three_flat a b s
fields_flat (gives_sum a b s) = three_flat a b s
fields_flat (fades a r s) = three_flat a r s

fields_fit : (a b c : ℕ) → (field a && (field b && field c)) ≡ true → (a < 4294967296) × (b < 4294967296) × (c < 4294967296)
fields_fit a b c h = grind (arith, nat_tests)

rule_back : (k a b c : ℕ) → k ≤ 4 → (field a && (field b && field c)) ≡ true → call_of (0 ∷ k ∷ three a b c) ≡ lays (rule_from k a b c)
rule_back k a b c l h =
    let f = fields_fit a b c h in
    let p = row_first 4 a b c f.0 in
    let q = row_second 4 a b c f.1 in
    let r = row_third 4 a b c f.2 in
    rule_whole k (three a b c) l (row_long 4 a b c) ∙ rw (p, q, r)

-- ---- calls with one number

abbrev numbered : ℕ → ℕ → Call
numbered b n = pick (eqb b 1) (lifts n) (pick (eqb b 2) (left_of n) (pick (eqb b 3) (next_row n) (safe n)))

at_number : (b : ℕ) (xs : List ℕ) → 0 < b → b ≤ 4 → call_of (b ∷ xs) ≡ with_field (numbered b) (one_field (b ∷ xs))
at_number b xs l m = grind (arith, nat_tests)

-- such a call is written by its kind and its number
number_parts : (b n : ℕ) → 0 < b → b ≤ 4 → (call_bytes (numbered b n) ≡ b ∷ bytes_of 4 n) × (readable (numbered b n) ≡ field n) × (is_garbled (numbered b n) ≡ false)
unfolding readable
number_parts b n l m = grind (arith, nat_tests)

number_call : (b n : ℕ) → 0 < b → b ≤ 4 → field n ≡ true → call_of (b ∷ bytes_of 4 n) ≡ numbered b n
number_call b n l m h =
    at_number b (bytes_of 4 n) l m ∙
    ap (with_field (numbered b)) (size_same 5 (b ∷ bytes_of 4 n) (Ok (number_of (take 4 (bytes_of 4 n)))) (λ i. Err i) (omega (arith, bytes_long 4 n))) ∙
    ap (λ (t : List ℕ). numbered b (number_of t)) (take_all 4 (bytes_of 4 n) (omega (arith, bytes_long 4 n))) ∙ ap (numbered b) (number_back 4 n (ltb-true n 4294967296 h))

-- ---- reading what was written

pub calls_read_back : CallsReadBack
unfolding readable readable_rule rule_number
calls_read_back (lays (takes a b r)) w = rule_back 0 a b r (omega arith) w.0
calls_read_back (lays (gives a b r)) w = rule_back 1 a b r (omega arith) w.0
calls_read_back (lays (takes_sum a b s)) w = rule_back 2 a b s (omega arith) w.0
calls_read_back (lays (gives_sum a b s)) w = rule_back 3 a b s (omega arith) w.0
calls_read_back (lays (fades a r s)) w = rule_back 4 a r s (omega arith) w.0
calls_read_back (lifts i) w = number_call 1 i (omega arith) (omega arith) w.0
calls_read_back (left_of g) w = number_call 2 g (omega arith) (omega arith) w.0
calls_read_back (next_row g) w = number_call 3 g (omega arith) (omega arith) w.0
calls_read_back (safe g) w = number_call 4 g (omega arith) (omega arith) w.0
calls_read_back (garbled n) w = absurd (true≢false w.1)

pub laid_back : (r : Rule) (bs : List ℕ) → bs ≡ call_bytes (lays r) → readable_rule r ≡ true → call_of bs ≡ lays r
unfolding readable
laid_back r bs e f = rw e (calls_read_back (lays r) (f, refl))

pub calls_differ : CallsDiffer
calls_differ c d v w e = sym (calls_read_back c v) ∙ ap call_of e ∙ calls_read_back d w

-- ---- any bytes are one of these

record Cases (P : List ℕ → Call → Type 0) : Type 0 where
  empty : P [] (garbled 0)
  kind_high : (b : ℕ) (xs : List ℕ) → 4 < b → P (b ∷ xs) (garbled 0)
  rule_empty : P (0 ∷ []) (garbled 1)
  rule_kind_high : (k : ℕ) (xs : List ℕ) → 4 < k → P (0 ∷ k ∷ xs) (garbled 1)
  rule_short : (k : ℕ) (xs : List ℕ) → k ≤ 4 → length xs < 12 → P (0 ∷ k ∷ xs) (garbled (suc (suc (length xs))))
  rule_over : (k : ℕ) (xs : List ℕ) → k ≤ 4 → 12 < length xs → P (0 ∷ k ∷ xs) (garbled 14)
  rule_same : (k : ℕ) (xs : List ℕ) → k ≤ 4 → length xs ≡ 12 → P (0 ∷ k ∷ xs) (lays (whole_rule k xs))
  number_short : (b : ℕ) (xs : List ℕ) → 0 < b → b ≤ 4 → length xs < 4 → P (b ∷ xs) (garbled (suc (length xs)))
  number_over : (b : ℕ) (xs : List ℕ) → 0 < b → b ≤ 4 → 4 < length xs → P (b ∷ xs) (garbled 5)
  number_same : (b : ℕ) (xs : List ℕ) → 0 < b → b ≤ 4 → length xs ≡ 4 → P (b ∷ xs) (numbered b (number_of xs))

module _ (P : List ℕ → Call → Type 0) (p : Cases P) where
  lay_cases : (xs : List ℕ) → P (0 ∷ xs) (laid (rule_of xs))
  lay_cases [] = p.rule_empty
  lay_cases (k ∷ xs) =
      elim (cases_lt 4 k) [
        | inl l ↦ let e = rule_high k xs l in rw e (p.rule_kind_high k xs l)
        | inr l ↦
            let s : suc (length xs) + 1 ≡ suc (suc (length xs)) = omega arith in
            subst (λ (r : Result Rule ℕ). P (0 ∷ k ∷ xs) (laid r)) (sym (rule_known k xs l))
            (size_cases (λ (r : Result Rule ℕ). P (0 ∷ k ∷ xs) (laid r)) 13 (k ∷ xs) (Ok (whole_rule k xs)) (λ n. Err n)
            (λ e. p.rule_same k xs l (omega arith)) (λ e. rw s (p.rule_short k xs l (omega arith))) (λ e. p.rule_over k xs l (omega arith)))
      ]

  number_cases : (b : ℕ) (xs : List ℕ) → 0 < b → b ≤ 4 → P (b ∷ xs) (with_field (numbered b) (one_field (b ∷ xs)))
  number_cases b xs l m =
      size_cases (λ (r : Result ℕ ℕ). P (b ∷ xs) (with_field (numbered b) r)) 5 (b ∷ xs) (Ok (number_of (take 4 xs))) (λ n. Err n)
      (λ e. let t = take_all 4 xs (omega arith) in rw t (p.number_same b xs l m (omega arith))) (λ e. p.number_short b xs l m (omega arith)) (λ e. p.number_over b xs l m (omega arith))

  call_cases : (bs : List ℕ) → P bs (call_of bs)
  call_cases [] = p.empty
  call_cases (zero ∷ xs) = subst (P (0 ∷ xs)) (sym (at_kind 0 xs)) (lay_cases xs)
  call_cases (suc b ∷ xs) =
      elim (cases_lt 4 (suc b)) [
        | inl l ↦ subst (P (suc b ∷ xs)) (sym (no_kind (suc b) xs l)) (p.kind_high (suc b) xs l)
        | inr l ↦ subst (P (suc b ∷ xs)) (sym (at_number (suc b) xs (omega arith) l)) (number_cases (suc b) xs (omega arith) l)
      ]

-- ---- nothing else is read

-- c fits, and if it is a call, then bs are its bytes
abbrev Reads : List ℕ → Call → Type 0
Reads bs c = all_below 256 bs ≡ true → (readable c ≡ true) × (is_garbled c ≡ false → call_bytes c ≡ bs)

reads_none : (bs : List ℕ) (n : ℕ) → n < 15 → Reads bs (garbled n)
unfolding readable
reads_none bs n l h = grind (arith, nat_tests)

reads_rule : (k : ℕ) (xs : List ℕ) → k ≤ 4 → length xs ≡ 12 → all_below 256 xs ≡ true → (readable (lays (whole_rule k xs)) ≡ true) × (call_bytes (lays (whole_rule k xs)) ≡ 0 ∷ k ∷ xs)
unfolding readable
reads_rule k xs l e h =
    let p = rule_parts k (number_of (take 4 xs)) (number_at 4 xs 4) (number_at 4 xs 8) l in
    let a = number_fits 4 0 xs (omega arith) h in
    let b = number_fits 4 4 xs (omega arith) h in
    let c = number_fits 4 8 xs (omega arith) h in
    let f : (field (number_at 4 xs 0) && (field (number_at 4 xs 4) && field (number_at 4 xs 8))) ≡ true = grind (arith, nat_tests) in
    (p.1 ∙ f, ap (λ (t : List ℕ). 0 ∷ t) (p.0 ∙ ap (λ (t : List ℕ). k ∷ t) (row_back 4 xs e h)))

reads_number : (b : ℕ) (xs : List ℕ) → 0 < b → b ≤ 4 → length xs ≡ 4 → all_below 256 xs ≡ true → (readable (numbered b (number_of xs)) ≡ true) × (call_bytes (numbered b (number_of xs)) ≡ b ∷ xs)
reads_number b xs l m e h =
    let p = number_parts b (number_of xs) l m in
    (p.1 ∙ lt-ltb (number_of xs) 4294967296 (number_below 4 xs e h), p.0 ∙ ap (λ (t : List ℕ). b ∷ t) (bytes_back 4 xs e h))

below_rest : (b : ℕ) (xs : List ℕ) → all_below 256 (b ∷ xs) ≡ true → all_below 256 xs ≡ true
unfolding all_below
below_rest b xs h = (and_parts (ltb b 256) (all_below 256 xs) h).1

pub only_calls_read : OnlyCallsRead
only_calls_read bs h =
    call_cases Reads
    (record {
      empty = reads_none [] 0 (omega arith);
      kind_high = λ b xs l. reads_none (b ∷ xs) 0 (omega arith);
      rule_empty = reads_none (0 ∷ []) 1 (omega arith);
      rule_kind_high = λ k xs l. reads_none (0 ∷ k ∷ xs) 1 (omega arith);
      rule_short = λ k xs l s. reads_none (0 ∷ k ∷ xs) (suc (suc (length xs))) (omega arith);
      rule_over = λ k xs l s. reads_none (0 ∷ k ∷ xs) 14 (omega arith);
      rule_same = λ k xs l s g. let r = reads_rule k xs l s (below_rest k xs (below_rest 0 (k ∷ xs) g)) in (r.0, λ _. r.1);
      number_short = λ b xs l m s. reads_none (b ∷ xs) (suc (length xs)) (omega arith);
      number_over = λ b xs l m s. reads_none (b ∷ xs) 5 (omega arith);
      number_same = λ b xs l m s g. let r = reads_number b xs l m s (below_rest b xs g) in (r.0, λ _. r.1);
    }) bs h

-- ---- the place of a refusal

-- what a call's bytes look like
abbrev Shape : List ℕ → Type 0
Shape bs = ((get_or bs 0 0 ≡ 0) × (get_or bs 1 0 ≤ 4) × (length bs ≡ 14)) ⊎ ((0 < get_or bs 0 0) × (get_or bs 0 0 ≤ 4) × (length bs ≡ 5))

rule_shape : (r : Rule) → (rule_number r ≤ 4) × (length (rule_fields r) ≡ 12)
unfolding rule_number
rule_shape (takes a b r) = (omega arith, row_long 4 a b r)
rule_shape (gives a b r) = (omega arith, row_long 4 a b r)
rule_shape (takes_sum a b s) = (omega arith, row_long 4 a b s)
rule_shape (gives_sum a b s) = (omega arith, row_long 4 a b s)
rule_shape (fades a r s) = (omega arith, row_long 4 a r s)

shape : (c : Call) → is_garbled c ≡ false → Shape (call_bytes c)
shape (lays r) g = let s = rule_shape r in inl (refl, s.0, omega (arith, s.1))
shape (lifts i) g = inr (omega arith, omega arith, omega (arith, bytes_long 4 i))
shape (left_of n) g = inr (omega arith, omega arith, omega (arith, bytes_long 4 n))
shape (next_row n) g = inr (omega arith, omega arith, omega (arith, bytes_long 4 n))
shape (safe n) g = inr (omega arith, omega arith, omega (arith, bytes_long 4 n))
shape (garbled n) g = absurd (true≢false g)

abbrev RightAt : List ℕ → ℕ → Type 0
RightAt bs n = Begins (take n bs) × (((n ≡ length bs) × ((c : Call) → Writable c → call_bytes c ≡ bs → ⊥)) ⊎ ((n < length bs) × (Begins (take (suc n) bs) → ⊥)))

abbrev Placed : List ℕ → Call → Type 0
Placed bs c = all_below 256 bs ≡ true → (n : ℕ) → c ≡ garbled n → RightAt bs n

-- the bytes end too early
ends : (bs : List ℕ) → (all_below 256 bs ≡ true → Begins bs) → (Shape bs → ⊥) → Placed bs (garbled (length bs))
ends bs b s h n e =
    let m : length bs ≡ n = cc in
    let t : take (length bs) bs ≡ bs = take_all (length bs) bs (omega arith) in
    subst (RightAt bs) m (rw t (b h), inl (refl, λ c w f. s (subst Shape f (shape c w.1))))

-- the byte at the place doesn't fit
breaks : (bs : List ℕ) (k : ℕ) → k < length bs → (all_below 256 bs ≡ true → Begins (take k bs)) → ((zs : List ℕ) → Shape (take (suc k) bs ++ zs) → ⊥) → Placed bs (garbled k)
breaks bs k l b s h n e =
    let m : k ≡ n = cc in
    subst (RightAt bs) m (b h, inr (l, λ f. s f.1 (subst Shape (sym f.3) (shape f.0 f.2.1))))

placed_none : (bs : List ℕ) (c : Call) → is_garbled c ≡ false → Placed bs c
placed_none bs c g h n e = absurd (true≢false (sym (ap is_garbled e) ∙ g))

begins_empty : Begins []
unfolding readable bytes_of
begins_empty = (lifts 0, call_bytes (lifts 0), (refl, refl), refl)

begins_lay : Begins (0 ∷ [])
unfolding readable readable_rule
begins_lay = (lays (takes 0 0 0), rule_bytes (takes 0 0 0), (refl, refl), refl)

abbrev filled : ℕ → List ℕ → List ℕ
filled k xs = xs ++ replicate (k - length xs) 0

filled_long : (k : ℕ) (xs : List ℕ) → length xs ≤ k → length (filled k xs) ≡ k
filled_long k xs l = length-append xs (replicate (k - length xs) 0) ∙ omega (arith, length-replicate {A = ℕ} (k - length xs) 0)

filled_below : (k : ℕ) (xs : List ℕ) → all_below 256 xs ≡ true → all_below 256 (filled k xs) ≡ true
filled_below k xs h = below_both 256 xs (replicate (k - length xs) 0) h (below_zeros 256 (k - length xs) (omega arith))

begins_rule : (k : ℕ) (xs : List ℕ) → k ≤ 4 → length xs ≤ 12 → all_below 256 xs ≡ true → Begins (0 ∷ k ∷ xs)
begins_rule k xs l m h =
    let r = reads_rule k (filled 12 xs) l (filled_long 12 xs m) (filled_below 12 xs h) in
    (lays (whole_rule k (filled 12 xs)), replicate (12 - length xs) 0, (r.0, refl), sym r.1)

begins_number : (b : ℕ) (xs : List ℕ) → 0 < b → b ≤ 4 → length xs ≤ 4 → all_below 256 xs ≡ true → Begins (b ∷ xs)
begins_number b xs l m s h =
    let r = reads_number b (filled 4 xs) l m (filled_long 4 xs s) (filled_below 4 xs h) in
    (numbered b (number_of (filled 4 xs)), replicate (4 - length xs) 0, (r.0, (number_parts b (number_of (filled 4 xs)) l m).2), sym r.1)

long_front : (n : ℕ) (bs zs : List ℕ) → n ≤ length bs → n ≤ length (take n bs ++ zs)
long_front n bs zs l = omega (arith, length-append (take n bs) zs, length-take-le n bs l)

pub place_right : PlaceRight
place_right bs n h e =
    call_cases Placed
    (record {
      empty = ends [] (λ g. begins_empty) (λ s. grind arith);
      kind_high = λ b xs l. breaks (b ∷ xs) 0 (omega arith) (λ g. begins_empty) (λ zs s. grind arith);
      rule_empty = ends (0 ∷ []) (λ g. begins_lay) (λ s. grind arith);
      rule_kind_high = λ k xs l. breaks (0 ∷ k ∷ xs) 1 (omega arith) (λ g. begins_lay) (λ zs s. grind arith);
      rule_short =
          λ k xs l m. ends (0 ∷ k ∷ xs) (λ g. begins_rule k xs l (omega arith) (below_rest k xs (below_rest 0 (k ∷ xs) g))) (λ s. grind arith);
      rule_over =
          λ k xs l m. breaks (0 ∷ k ∷ xs) 14 (omega arith)
          (λ g. begins_rule k (take 12 xs) l (omega (arith, length-take-le 12 xs (omega arith))) (below_take 256 12 xs (below_rest k xs (below_rest 0 (k ∷ xs) g))))
          (λ zs s. let o = long_front 15 (0 ∷ k ∷ xs) zs (omega arith) in grind arith);
      rule_same = λ k xs l m. placed_none (0 ∷ k ∷ xs) (lays (whole_rule k xs)) refl;
      number_short = λ b xs l m q. ends (b ∷ xs) (λ g. begins_number b xs l m (omega arith) (below_rest b xs g)) (λ s. grind arith);
      number_over =
          λ b xs l m q. breaks (b ∷ xs) 5 (omega arith)
          (λ g. begins_number b (take 4 xs) l m (omega (arith, length-take-le 4 xs (omega arith))) (below_take 256 4 xs (below_rest b xs g)))
          (λ zs s. let o = long_front 6 (b ∷ xs) zs (omega arith) in grind arith);
      number_same = λ b xs l m s. placed_none (b ∷ xs) (numbered b (number_of xs)) (number_parts b (number_of xs) l m).2;
    }) bs h n e
