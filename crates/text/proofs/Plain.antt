-- What is written of a bound or of a rule has no byte below a blank: no newline, and no carriage return.
use Rattle.std.proofs.Common.{◌≡◌, ℕ, ◌/◌, ◌%◌, ◌<◌, Bool, true, ◌&&◌, eqb, leb, List, [], ◌∷◌, ◌++◌, codes, decimal, refl, arith, inl, inr}
use Rattle.std.specs.List.{list_all}
use Rattle.std.specs.Char.{is_ascii_digit}
use Rattle.std.specs.Str.{all_ascii_digits}
use Rattle.std.proofs.lemmas.Bool.{and_parts, and_from, cases_Bool}
use Rattle.std.proofs.lemmas.List.Folds.{list_all-append}
use Rattle.raise.specs.Rules.{Rule, takes, gives, takes_sum, gives_sum, fades}
use Rattle.raise.specs.Promise.{readable_rule}
use Rattle.text.specs.RuleLines.{percentage, span_text, line_text, bounds, rule_text}
use Rattle.text.proofs.ReadBack.{decimal_digits, three_small}

pub record Plain (bs : List ℕ) : Type 0 where
  pub each : list_all (λ c. leb 32 c) bs ≡ true

pub joined : {xs ys : List ℕ} → Plain xs → Plain ys → Plain (xs ++ ys)
joined {xs} {ys} p q = record { each = rw (list_all-append (λ c. leb 32 c) xs ys, p.each, q.each) refl }

spelled : (bs : List ℕ) → list_all (λ c. leb 32 c) bs ≡ true → Plain bs
spelled bs e = record { each = e }

digits_plain : (ds : List ℕ) → all_ascii_digits ds ≡ true → list_all (λ c. leb 32 c) ds ≡ true
digits_plain [] h = refl
digits_plain (c ∷ cs) h =
    let p = and_parts (is_ascii_digit c) (all_ascii_digits cs) h in
    let d : is_ascii_digit c ≡ true = p.0 in
    let l : leb 32 c ≡ true = grind arith in
    and_from _ _ l (digits_plain cs p.1)

number_plain : (n : ℕ) → n < 4294967296 → Plain (decimal n)
number_plain n h = record { each = digits_plain (decimal n) (decimal_digits n h) }

rate_plain : (r : ℕ) → r < 4294967296 → Plain (percentage r)
rate_plain r h =
    let whole = number_plain (r / 100) (omega (arith, h)) in
    let tenths = number_plain (r / 10 % 10) (omega arith) in
    let hundredths = number_plain (r % 10) (omega arith) in
    elim (cases_Bool (eqb (r % 100) 0)) [
      | inl t ↦ rw t whole
      | inr t ↦ rw t (elim (cases_Bool (eqb (r % 10) 0)) [
        | inl u ↦ rw u (joined whole (joined (spelled (codes ".") refl) tenths))
        | inr u ↦ rw u (joined whole (joined (spelled (codes ".") refl) (joined tenths hundredths)))
      ])
    ]

span_plain : (a b : ℕ) → a < 4294967296 → b < 4294967296 → Plain (span_text a b)
span_plain a b h k = joined (spelled (codes " from ") refl) (joined (number_plain a h) (joined (spelled (codes " to ") refl) (number_plain b k)))

pub bound_plain : (n : ℕ) → n < 4294967296 → Plain (line_text (bounds n))
bound_plain n h = joined (spelled (codes "bound ") refl) (number_plain n h)

pub rule_plain : (r : Rule) → readable_rule r ≡ true → Plain (rule_text r)
unfolding readable_rule
rule_plain (takes a b r) h =
    let f = three_small a b r h in joined (spelled (codes "take ") refl) (joined (rate_plain r f.2) (joined (spelled (codes " %") refl) (span_plain a b f.0 f.1)))
rule_plain (gives a b r) h =
    let f = three_small a b r h in joined (spelled (codes "give ") refl) (joined (rate_plain r f.2) (joined (spelled (codes " %") refl) (span_plain a b f.0 f.1)))
rule_plain (takes_sum a b s) h = let f = three_small a b s h in joined (spelled (codes "take ") refl) (joined (number_plain s f.2) (span_plain a b f.0 f.1))
rule_plain (gives_sum a b s) h = let f = three_small a b s h in joined (spelled (codes "give ") refl) (joined (number_plain s f.2) (span_plain a b f.0 f.1))
rule_plain (fades a r s) h =
    let f = three_small a r s h in
    joined (spelled (codes "fade ") refl) (joined (number_plain s f.2) (joined (spelled (codes " at ") refl) (joined (rate_plain r f.1) (joined (spelled (codes " % above ") refl) (number_plain a f.0)))))
