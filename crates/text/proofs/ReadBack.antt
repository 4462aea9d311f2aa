-- The line that is written of a rule reads back as that rule.
use Rattle.std.proofs.Common.{◌≡◌, ℕ, ap, ◌+◌, ◌-◌, ◌*◌, ◌/◌, ◌%◌, ◌<◌, Bool, true, false, not, ◌&&◌, ◌⊎◌, List, [], ◌∷◌, ◌++◌, length, map, Option, Some, None, unwrap_or, rules, append-nil, length-append, codes, decimal, ◌==◌, refl, ◌∙◌, arith, inl, inr}
use Rattle.std.specs.Char.{is_ascii_digit}
use Rattle.std.specs.List.{AllByRecursion}
use Rattle.std.specs.Str.{all_ascii_digits}
use Rattle.std.specs.Str.Parse.{digits_value}
use Rattle.std.proofs.lemmas.Str.Parse.{IsNumeralModel, numerals_by_value}
use Rattle.std.proofs.lemmas.Fmt.{digits_decimal, digits_value-decimal, decimal_nonempty, decimal_digit}
use Rattle.std.proofs.lemmas.Bool.{cases_Bool, and_parts, lt-ltb, ltb-true, eqb-true}
use Rattle.raise.specs.Rules.{Rule, takes, gives, takes_sum, gives_sum, fades}
use Rattle.raise.specs.Calls.{fine}
use Rattle.raise.specs.Promise.{field, readable_rule}
use Rattle.text.specs.declared.cuts.Stop.TheVariants.{Comment, Point}
use Rattle.text.specs.Words.{before, onward, stops, is_blank, is_empty, words_in, number_of, number_word, word_of, words_of, hundredths, in_hundredths}
use Rattle.text.proofs.Pieces.{begun}
use Rattle.text.specs.declared.words.Word.{Word}
use Rattle.text.specs.declared.words.Word.TheVariants as word
use Rattle.text.specs.declared.rule_lines.Span.{Span}
use Rattle.text.specs.declared.rule_lines.Flow.TheVariants.{Rate, Sum}
use Rattle.text.specs.RuleLines.{unreadable, span_of, percentage, rate_of, with_rate, with_sum, flow_of, said_by, rule_text, line_text, line_says, lays, bounds, nothing, ReadsBack, FormsRead}

-- ---- no line that can be read has more than seven words

span_short : (ws : List Word) → 4 < length ws → span_of ws ≡ None
span_short (word.From ∷ (word.Number a ∷ (word.To ∷ (word.Number b ∷ [])))) l = absurd (omega (arith, l))
span_short (word.From ∷ (word.Number a ∷ (word.On ∷ []))) l = absurd (omega (arith, l))
span_short (word.Below ∷ (word.Number b ∷ [])) l = absurd (omega (arith, l))
span_short ws l = refl

no_span : (r : Option ℕ) → with_rate r None ≡ None
no_span None = refl
no_span (Some n) = refl

flow_short : (ws : List Word) → 6 < length ws → flow_of ws ≡ None
flow_short (w ∷ (word.Percent ∷ ws)) l = ap (with_rate (rate_of w)) (span_short ws (omega (arith, l))) ∙ no_span (rate_of w)
flow_short (word.Number n ∷ ws) l = ap (with_sum n) (span_short ws (omega (arith, l)))
flow_short ws l = refl

pub too_many : (ws : List Word) → 7 < length ws → said_by ws ≡ unreadable
too_many [] l = absurd (omega (arith, l))
too_many (word.Bound ∷ (word.Number n ∷ [])) l = absurd (omega (arith, l))
too_many (word.Take ∷ ws) l = rw (flow_short ws (omega (arith, l))) refl
too_many (word.Give ∷ ws) l = rw (flow_short ws (omega (arith, l))) refl
too_many (word.Fade ∷ (word.Number n ∷ (word.At ∷ (w ∷ (word.Percent ∷ (word.Above ∷ (word.Number a ∷ []))))))) l = absurd (omega (arith, l))
too_many ws l = refl

-- ---- the words of what is written

-- none of these bytes passes a test
none : (ℕ → Bool) → List ℕ → Bool
none test [] = true
none test (c ∷ cs) = not (test c) && none test cs

module _ (test : ℕ → Bool) where
  none_in : (c : ℕ) (cs : List ℕ) → none test (c ∷ cs) ≡ true → (test c ≡ false) × (none test cs ≡ true)
  unfolding none
  none_in c cs n = let p = and_parts (not (test c)) (none test cs) n in (grind (arith, p.0), p.1)

  before_none : (w r : List ℕ) → none test w ≡ true → before test (w ++ r) ≡ w ++ before test r
  before_none [] r n = refl
  before_none (c ∷ cs) r n = let p = none_in c cs n in rw p.0 (ap (λ xs. c ∷ xs) (before_none cs r p.1))

  onward_none : (w r : List ℕ) → none test w ≡ true → onward test (w ++ r) ≡ onward test r
  onward_none [] r n = refl
  onward_none (c ∷ cs) r n = let p = none_in c cs n in rw p.0 (onward_none cs r p.1)

  none_append : (xs ys : List ℕ) → none test xs ≡ true → none test ys ≡ true → none test (xs ++ ys) ≡ true
  unfolding none
  none_append [] ys n m = m
  none_append (c ∷ cs) ys n m = let p = none_in c cs n in rw (p.0, none_append cs ys p.1 m) refl

  digits_none : ((c : ℕ) → is_ascii_digit c ≡ true → test c ≡ false) → (ds : List ℕ) → all_ascii_digits ds ≡ true → none test ds ≡ true
  unfolding none
  digits_none other [] a = refl
  digits_none other (c ∷ cs) a = let p = and_parts (is_ascii_digit c) (all_ascii_digits cs) a in rw (other c p.0, digits_none other cs p.1) refl

-- a word: not empty, no blank in it, and no comment
record IsWord (w : List ℕ) : Type 0 where
  some : 0 < length w
  joined : none is_blank w ≡ true
  said : none (stops Comment) w ≡ true

-- words apart by one blank
spaced : List (List ℕ) → List ℕ
spaced [] = []
spaced (w ∷ []) = w
spaced (w ∷ (v ∷ ws)) = w ++ (32 ∷ spaced (v ∷ ws))

no_comment : (ws : List (List ℕ)) → AllByRecursion IsWord ws → before (stops Comment) (spaced ws) ≡ spaced ws
unfolding spaced
no_comment [] a = refl
no_comment (w ∷ []) a = let e : before (stops Comment) (w ++ []) ≡ w ++ [] = before_none (stops Comment) w [] (a.0.said) in rw (append-nil w) at e
no_comment (w ∷ (v ∷ ws)) a =
    before_none (stops Comment) w (32 ∷ spaced (v ∷ ws)) (a.0.said) ∙ ap (λ xs. w ++ (32 ∷ xs)) (no_comment (v ∷ ws) a.1)

no_words : words_in [] ≡ []
unfolding words_in
no_words = refl

blank_first : (r : List ℕ) → words_in (32 ∷ r) ≡ words_in r
unfolding words_in
blank_first r = refl

last_word : (w : List ℕ) → IsWord w → words_in w ≡ w ∷ []
last_word [] i = absurd (omega (arith, i.some))
last_word (c ∷ cs) i =
    let b : before is_blank (c ∷ cs) ≡ c ∷ cs = rw (append-nil cs) at (before_none is_blank (c ∷ cs) [] i.joined) in
    let o : onward is_blank (c ∷ cs) ≡ [] = rw (append-nil cs) at (onward_none is_blank (c ∷ cs) [] i.joined) in
    begun c cs (none_in is_blank c cs i.joined).0 ∙ rw (b, o, no_words) refl

next_word : (w r : List ℕ) → IsWord w → words_in (w ++ (32 ∷ r)) ≡ w ∷ words_in r
next_word [] r i = absurd (omega (arith, i.some))
next_word (c ∷ cs) r i =
    let b : before is_blank (c ∷ (cs ++ (32 ∷ r))) ≡ c ∷ cs = rw (append-nil cs) at (before_none is_blank (c ∷ cs) (32 ∷ r) i.joined) in
    let o : onward is_blank (c ∷ (cs ++ (32 ∷ r))) ≡ 32 ∷ r = onward_none is_blank (c ∷ cs) (32 ∷ r) i.joined in
    begun c (cs ++ (32 ∷ r)) (none_in is_blank c cs i.joined).0 ∙ rw (b, o, blank_first r) refl

words_spaced : (ws : List (List ℕ)) → AllByRecursion IsWord ws → words_in (spaced ws) ≡ ws
unfolding words_in spaced
words_spaced [] a = refl
words_spaced (w ∷ []) a = last_word w a.0
words_spaced (w ∷ (v ∷ ws)) a = next_word w (spaced (v ∷ ws)) a.0 ∙ ap (λ xs. w ∷ xs) (words_spaced (v ∷ ws) a.1)

read_words : (ws : List (List ℕ)) → AllByRecursion IsWord ws → words_of (spaced ws) ≡ map word_of ws
unfolding words_of
read_words ws a = rw (no_comment ws a, words_spaced ws a) refl

-- ---- the words that numbers are

own : IsNumeralModel (λ ds. all_ascii_digits ds ≡ true) (digits_value 10)
own = numerals_by_value _ (search rules)

pub decimal_digits : (n : ℕ) → n < 4294967296 → all_ascii_digits (decimal n) ≡ true
decimal_digits n h = digits_decimal own n (omega (arith, h))

decimal_value : (n : ℕ) → n < 4294967296 → number_of (decimal n) ≡ Some n
decimal_value n h =
    let s : is_empty (decimal n) ≡ false = grind (arith, decimal_nonempty n (omega (arith, h))) in
    rw (s, decimal_digits n h, digits_value-decimal own n (omega (arith, h)), lt-ltb n 4294967296 h) refl

digits_word : (ds : List ℕ) → 0 < length ds → all_ascii_digits ds ≡ true → IsWord ds
digits_word ds l a = record { some = l; joined = digits_none is_blank (λ c d. grind (arith, d)) ds a; said = digits_none (stops Comment) (λ c d. grind (arith, d)) ds a }

decimal_word : (n : ℕ) → n < 4294967296 → IsWord (decimal n)
decimal_word n h = digits_word (decimal n) (decimal_nonempty n (omega (arith, h))) (decimal_digits n h)

no_point : (c : ℕ) → is_ascii_digit c ≡ true → stops Point c ≡ false
no_point c d = grind (arith, d)

-- what begins with a digit is no keyword
no_keyword : (ds more : List ℕ) → 0 < length ds → all_ascii_digits ds ≡ true → word_of (ds ++ more) ≡ unwrap_or (number_word (ds ++ more)) word.Other
no_keyword [] more l a = absurd (omega (arith, l))
no_keyword (c ∷ cs) more l a = let d = and_parts (is_ascii_digit c) (all_ascii_digits cs) a in by_first c (cs ++ more) d.0
  where
    by_first : (c : ℕ) (cs : List ℕ) → is_ascii_digit c ≡ true → word_of (c ∷ cs) ≡ unwrap_or (number_word (c ∷ cs)) word.Other
    by_first c cs d = grind (arith, d)

-- a number, and with a point and what stands behind it
number_read : (n : ℕ) → n < 4294967296 → word_of (decimal n) ≡ word.Number n
number_read n h =
    let a = decimal_digits n h in
    let ds = digits_none (stops Point) no_point (decimal n) a in
    let k : word_of (decimal n) ≡ unwrap_or (number_word (decimal n)) word.Other = rw (append-nil (decimal n)) at (no_keyword (decimal n) [] (decimal_nonempty n (omega (arith, h))) a) in
    let b : before (stops Point) (decimal n) ≡ decimal n = rw (append-nil (decimal n)) at (before_none (stops Point) (decimal n) [] ds) in
    let o : onward (stops Point) (decimal n) ≡ [] = rw (append-nil (decimal n)) at (onward_none (stops Point) (decimal n) [] ds) in
    let m : number_word (decimal n) ≡ Some (word.Number n) = rw (b, o, decimal_value n h) refl in
    k ∙ ap (λ w. unwrap_or w word.Other) m

decimal_read : (n m : ℕ) (ps : List ℕ) → n < 4294967296 → hundredths ps ≡ Some m → word_of (decimal n ++ (46 ∷ ps)) ≡ word.Decimal (in_hundredths n m)
decimal_read n m ps h e =
    let a = decimal_digits n h in
    let ds = digits_none (stops Point) no_point (decimal n) a in
    let k = no_keyword (decimal n) (46 ∷ ps) (decimal_nonempty n (omega (arith, h))) a in
    let b : before (stops Point) (decimal n ++ (46 ∷ ps)) ≡ decimal n = rw (append-nil (decimal n)) at (before_none (stops Point) (decimal n) (46 ∷ ps) ds) in
    let o : onward (stops Point) (decimal n ++ (46 ∷ ps)) ≡ 46 ∷ ps = onward_none (stops Point) (decimal n) (46 ∷ ps) ds in
    let w : number_word (decimal n ++ (46 ∷ ps)) ≡ Some (word.Decimal (in_hundredths n m)) = rw (b, o, decimal_value n h, e) refl in
    k ∙ ap (λ x. unwrap_or x word.Other) w

-- a percentage: one word, which is a number that is the rate
record IsPercentage (r : ℕ) (w : List ℕ) : Type 0 where
  one : IsWord w
  value : (word_of w ≡ word.Decimal r) ⊎ ((n : ℕ) × (word_of w ≡ word.Number n) × (in_hundredths n 0 ≡ r))

pointed_word : (n : ℕ) (ps : List ℕ) → n < 4294967296 → all_ascii_digits ps ≡ true → IsWord (decimal n ++ (46 ∷ ps))
unfolding none
pointed_word n ps h a =
    let d = decimal_digits n h in
    let all : (test : ℕ → Bool) → ((c : ℕ) → is_ascii_digit c ≡ true → test c ≡ false) → test 46 ≡ false → none test (decimal n ++ (46 ∷ ps)) ≡ true =
    λ test other point. none_append test (decimal n) (46 ∷ ps) (digits_none test other (decimal n) d) (rw (point, digits_none test other ps a) refl) in
    record {
      some = omega (arith, length-append (decimal n) (46 ∷ ps));
      joined = all is_blank (λ c d. grind (arith, d)) refl;
      said = all (stops Comment) (λ c d. grind (arith, d)) refl;
    }

with_point : (r n m : ℕ) (ps : List ℕ) → n < 4294967296 → all_ascii_digits ps ≡ true → hundredths ps ≡ Some m → in_hundredths n m ≡ r → IsPercentage r (decimal n ++ (46 ∷ ps))
with_point r n m ps h a e s = record { one = pointed_word n ps h a; value = inl (decimal_read n m ps h e ∙ ap word.Decimal s) }

fits_hundredths : (r n m : ℕ) → r < 4294967296 → 100 * n + m ≡ r → in_hundredths n m ≡ r
fits_hundredths r n m h e = grind (arith, e)

digit_byte : (d : ℕ) → d < 10 → (is_ascii_digit (48 + d) ≡ true) × (48 + d - 48 ≡ d)
digit_byte d h = (grind (arith, h), omega arith)

one_digit : (d : ℕ) → d < 10 → (all_ascii_digits ((48 + d) ∷ []) ≡ true) × (hundredths ((48 + d) ∷ []) ≡ Some (10 * d))
one_digit d h = let b = digit_byte d h in rw (b.0, b.1) (refl, refl)

two_digits : (d u : ℕ) → d < 10 → u < 10 → (all_ascii_digits ((48 + d) ∷ ((48 + u) ∷ [])) ≡ true) × (hundredths ((48 + d) ∷ ((48 + u) ∷ [])) ≡ Some (10 * d + u))
two_digits d u h k = let b = digit_byte d h in let c = digit_byte u k in rw (b.0, b.1, c.0, c.1) (refl, refl)

percentage_read : (r : ℕ) → r < 4294967296 → IsPercentage r (percentage r)
percentage_read r h =
    let n : r / 100 < 4294967296 = omega arith in
    let t : r / 10 % 10 < 10 = omega arith in
    let u : r % 10 < 10 = omega arith in
    elim (cases_Bool (r % 100 == 0)) [
      | inl whole ↦
          rw whole (record { one = decimal_word (r / 100) n; value = inr (r / 100, number_read (r / 100) n, fits_hundredths r (r / 100) 0 h (omega (arith, eqb-true _ _ whole))) })
      | inr part ↦ elim (cases_Bool (r % 10 == 0)) [
        | inl tenths ↦
            let d = one_digit (r / 10 % 10) t in
            let s = fits_hundredths r (r / 100) (10 * (r / 10 % 10)) h (omega (arith, eqb-true _ _ tenths)) in
            rw (part, tenths, decimal_digit (r / 10 % 10) t) (with_point r (r / 100) (10 * (r / 10 % 10)) ((48 + r / 10 % 10) ∷ []) n d.0 d.1 s)
        | inr both ↦
            let d = two_digits (r / 10 % 10) (r % 10) t u in
            let s = fits_hundredths r (r / 100) (10 * (r / 10 % 10) + r % 10) h (omega arith) in
            rw (part, both, decimal_digit (r / 10 % 10) t, decimal_digit (r % 10) u) (with_point r (r / 100) (10 * (r / 10 % 10) + r % 10) ((48 + r / 10 % 10) ∷ ((48 + r % 10) ∷ [])) n d.0 d.1 s)
      ]
    ]

-- ---- rules

keyword : (w : List ℕ) → 0 < length w → none is_blank w ≡ true → none (stops Comment) w ≡ true → IsWord w
keyword w l b c = record { some = l; joined = b; said = c }

-- words that say from where to where
record SaysSpan (ws : List (List ℕ)) (s : Span) : Type 0 where
  each : AllByRecursion IsWord ws
  read : span_of (map word_of ws) ≡ Some s

module _ (a b : ℕ) (x : a < 4294967296) (y : b < 4294967296) where
  from_to : SaysSpan (codes "from" ∷ (decimal a ∷ (codes "to" ∷ (decimal b ∷ [])))) (record { from = a; to = b })
  unfolding none
  from_to = record {
    each = (keyword (codes "from") (omega arith) refl refl, (decimal_word a x, (keyword (codes "to") (omega arith) refl refl, (decimal_word b y, tt))));
    read = rw (number_read a x, number_read b y) refl;
  }

  from_on : SaysSpan (codes "from" ∷ (decimal a ∷ (codes "on" ∷ []))) (record { from = a; to = 1000000000 })
  unfolding none
  from_on = record {
    each = (keyword (codes "from") (omega arith) refl refl, (decimal_word a x, (keyword (codes "on") (omega arith) refl refl, tt)));
    read = rw (number_read a x) refl;
  }

  below : SaysSpan (codes "below" ∷ (decimal b ∷ [])) (record { from = 0; to = b })
  unfolding none
  below = record { each = (keyword (codes "below") (omega arith) refl refl, (decimal_word b y, tt)); read = rw (number_read b y) refl }

-- a number before such words is a sum
number_first : (n : ℕ) (ts : List Word) (s : Span) → span_of ts ≡ Some s → flow_of (word.Number n ∷ ts) ≡ Some (Sum s n)
number_first n (word.Percent ∷ ts) s e = let none : None ≡ Some s = e in cc
number_first n ts s e = ap (with_sum n) e

-- a rate, or a sum, behind a key word
module _ (v : List ℕ) (k : Word) (i : IsWord v) (e : word_of v ≡ k) (ws : List (List ℕ)) (s : Span) (h : SaysSpan ws s) (n : ℕ) (z : n < 4294967296) where
  rate_read : (words_of (spaced (v ∷ (percentage n ∷ (codes "%" ∷ ws)))) ≡ k ∷ map word_of (percentage n ∷ (codes "%" ∷ ws))) × (flow_of (map word_of (percentage n ∷ (codes "%" ∷ ws))) ≡ Some (Rate s n))
  unfolding none
  rate_read =
      let p = percentage_read n z in
      let w : words_of (spaced (v ∷ (percentage n ∷ (codes "%" ∷ ws)))) ≡ word_of v ∷ map word_of (percentage n ∷ (codes "%" ∷ ws)) =
      read_words (v ∷ (percentage n ∷ (codes "%" ∷ ws))) (i, (p.one, (keyword (codes "%") (omega arith) refl refl, h.each))) in
      (w ∙ rw e refl, elim p.value [ inl f ↦ rw (f, h.read) refl | inr f ↦ rw (f.1, h.read, f.2) refl ])

  sum_read : (words_of (spaced (v ∷ (decimal n ∷ ws))) ≡ k ∷ map word_of (decimal n ∷ ws)) × (flow_of (map word_of (decimal n ∷ ws)) ≡ Some (Sum s n))
  sum_read =
      let w : words_of (spaced (v ∷ (decimal n ∷ ws))) ≡ word_of v ∷ map word_of (decimal n ∷ ws) = read_words (v ∷ (decimal n ∷ ws)) (i, (decimal_word n z, h.each)) in
      (w ∙ rw e refl, ap (λ x. flow_of (x ∷ map word_of ws)) (number_read n z) ∙ number_first n (map word_of ws) s h.read)

fade_read : (a r n : ℕ) → a < 4294967296 → r < 4294967296 → n < 4294967296 → line_says (rule_text (fades a r n)) ≡ lays (fades a r n)
unfolding line_says spaced none
fade_read a r n x y z =
    let p = percentage_read r y in
    let ws = read_words (codes "fade" ∷ (decimal n ∷ (codes "at" ∷ (percentage r ∷ (codes "%" ∷ (codes "above" ∷ (decimal a ∷ []))))))) (
      keyword (codes "fade") (omega arith) refl refl,
      (
        decimal_word n z,
        (
          keyword (codes "at") (omega arith) refl refl,
          (p.one, (keyword (codes "%") (omega arith) refl refl, (keyword (codes "above") (omega arith) refl refl, (decimal_word a x, tt)))),
        ),
      ),
    ) in
    elim p.value [
      | inl f ↦ rw ws (rw (f, number_read n z, number_read a x) refl)
      | inr f ↦ rw ws (rw (f.1, number_read n z, number_read a x, f.2) refl)
    ]

field_small : (n : ℕ) → field n ≡ true → n < 4294967296
field_small n h = ltb-true _ _ h

pub three_small : (a b c : ℕ) → (field a && (field b && field c)) ≡ true → (a < 4294967296) × (b < 4294967296) × (c < 4294967296)
three_small a b c h =
    let p = and_parts (field a) (field b && field c) h in
    let q = and_parts (field b) (field c) p.1 in
    (field_small a p.0, field_small b q.0, field_small c q.1)

take_word : IsWord (codes "take")
unfolding none
take_word = keyword (codes "take") (omega arith) refl refl

give_word : IsWord (codes "give")
unfolding none
give_word = keyword (codes "give") (omega arith) refl refl

module _ (ws : List (List ℕ)) (s : Span) (h : SaysSpan ws s) (n : ℕ) (z : n < 4294967296) where
  rate_taken : line_says (spaced (codes "take" ∷ (percentage n ∷ (codes "%" ∷ ws)))) ≡ lays (takes s.from s.to n)
  unfolding line_says
  rate_taken = let q = rate_read (codes "take") word.Take take_word refl ws s h n z in rw q.0 (rw q.1 refl)

  rate_given : line_says (spaced (codes "give" ∷ (percentage n ∷ (codes "%" ∷ ws)))) ≡ lays (gives s.from s.to n)
  unfolding line_says
  rate_given = let q = rate_read (codes "give") word.Give give_word refl ws s h n z in rw q.0 (rw q.1 refl)

  sum_taken : line_says (spaced (codes "take" ∷ (decimal n ∷ ws))) ≡ lays (takes_sum s.from s.to n)
  unfolding line_says
  sum_taken = let q = sum_read (codes "take") word.Take take_word refl ws s h n z in rw q.0 (rw q.1 refl)

  sum_given : line_says (spaced (codes "give" ∷ (decimal n ∷ ws))) ≡ lays (gives_sum s.from s.to n)
  unfolding line_says
  sum_given = let q = sum_read (codes "give") word.Give give_word refl ws s h n z in rw q.0 (rw q.1 refl)

rules_back : (r : Rule) → readable_rule r ≡ true → line_says (rule_text r) ≡ lays r
unfolding readable_rule spaced
rules_back (takes a b r) h = let f = three_small a b r h in rate_taken _ _ (from_to a b f.0 f.1) r f.2
rules_back (gives a b r) h = let f = three_small a b r h in rate_given _ _ (from_to a b f.0 f.1) r f.2
rules_back (takes_sum a b s) h = let f = three_small a b s h in sum_taken _ _ (from_to a b f.0 f.1) s f.2
rules_back (gives_sum a b s) h = let f = three_small a b s h in sum_given _ _ (from_to a b f.0 f.1) s f.2
rules_back (fades a r s) h = let f = three_small a r s h in fade_read a r s f.0 f.1 f.2

bounds_back : (n : ℕ) → n < 4294967296 → line_says (line_text (bounds n)) ≡ bounds n
unfolding line_says spaced none
bounds_back n h = rw (read_words (codes "bound" ∷ (decimal n ∷ [])) (keyword (codes "bound") (omega arith) refl refl, (decimal_word n h, tt))) (rw (number_read n h) refl)

pub fine_readable : (r : Rule) → fine r ≡ true → readable_rule r ≡ true
unfolding fine readable_rule
fine_readable (takes a b r) h = grind (arith, h)
fine_readable (gives a b r) h = grind (arith, h)
fine_readable (takes_sum a b s) h = grind (arith, h)
fine_readable (gives_sum a b s) h = grind (arith, h)
fine_readable (fades a r s) h = grind (arith, h)

nothing_back : line_says [] ≡ nothing
unfolding line_says words_of words_in
nothing_back = refl

pub reads_back : ReadsBack
reads_back = record { nothing = nothing_back; rules = rules_back; bounds = bounds_back; in_range = λ r h. rules_back r (fine_readable r h) }

-- ---- each form, and comments

before_cut : (line comment : List ℕ) → before (stops Comment) (line ++ (35 ∷ comment)) ≡ before (stops Comment) line
before_cut [] comment = refl
before_cut (c ∷ cs) comment =
    elim (cases_Bool (stops Comment c)) [
      | inl t ↦ rw t refl
      | inr t ↦ rw t (ap (λ xs. c ∷ xs) (before_cut cs comment))
    ]

cut_off : (line comment : List ℕ) → line_says (line ++ (35 ∷ comment)) ≡ line_says line
unfolding line_says words_of
cut_off line comment = ap (λ l. said_by (map word_of (words_in l))) (before_cut line comment)

pub forms_read : FormsRead
unfolding spaced
forms_read = record {
  rate_taken = λ r z a b x y. (rate_taken _ _ (from_to a b x y) r z, rate_taken _ _ (from_on a b x y) r z, rate_taken _ _ (below a b x y) r z);
  rate_given = λ r z a b x y. (rate_given _ _ (from_to a b x y) r z, rate_given _ _ (from_on a b x y) r z, rate_given _ _ (below a b x y) r z);
  sum_taken = λ n z a b x y. (sum_taken _ _ (from_to a b x y) n z, sum_taken _ _ (from_on a b x y) n z, sum_taken _ _ (below a b x y) n z);
  sum_given = λ n z a b x y. (sum_given _ _ (from_to a b x y) n z, sum_given _ _ (from_on a b x y) n z, sum_given _ _ (below a b x y) n z);
  comments = cut_off;
}
