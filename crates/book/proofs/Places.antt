-- Rules in slots: what was written reads back, one slot more, and what is left when one is lifted.
use Rattle.std.proofs.Common.{◌≡◌, ℕ, zero, suc, ◌+◌, ◌*◌, ◌<◌, ◌≤◌, Bool, true, ◌&&◌, leb, List, [], ◌∷◌, ◌++◌, map, length, get_or, take, drop, Some, None, Option, sym, refl, ap, ◌∙◌, inl, inr, arith}
use Rattle.std.specs.List.{flat_map}
use Rattle.std.proofs.lemmas.List.{take_all, take_more, take-map, drop-drop, drop-map, length_push, flat_map_more, map-append, map_more, get_or-take}
use Rattle.std.proofs.lemmas.Bool.{and_parts, and_from, cases_Bool}
use Rattle.raise.specs.Rules.{pick, Rule, takes, gives, takes_sum, gives_sum, fades}
use Rattle.raise.specs.Calls.{rule_number, fine}
use Rattle.raise.proofs.Picks.{none_some}
use Rattle.wire.specs.declared.calls.Rule as declared
use Rattle.wire.specs.Meaning.{meant}
use Rattle.wire.specs.CallBytes.{rule_from}
use Rattle.book.proofs.Stored.{joined_long, drop_slots}
use Rattle.book.specs.Held.{slot, width, if_fine, slot_rule, one_more, rules_of, all_fine}

-- ---- slots

slot_long : (r : Rule) → length (slot r) ≡ width
slot_long (takes a b r) = refl
slot_long (gives a b r) = refl
slot_long (takes_sum a b s) = refl
slot_long (gives_sum a b s) = refl
slot_long (fades a r s) = refl

pub slots_long : (rs : List Rule) → length (flat_map slot rs) ≡ width * length rs
slots_long rs = joined_long slot width slot_long rs

-- ---- rules in range

pub fine_at : (rs : List Rule) (k : ℕ) (d : Rule) → all_fine rs ≡ true → k < length rs → fine (get_or rs k d) ≡ true
unfolding all_fine
fine_at [] k d e l = absurd (omega arith)
fine_at (r ∷ rs) zero d e l = (and_parts (fine r) (all_fine rs) e).0
fine_at (r ∷ rs) (suc k) d e l = fine_at rs k d (and_parts (fine r) (all_fine rs) e).1 (omega arith)

pub fine_push : (rs : List Rule) (r : Rule) → all_fine rs ≡ true → fine r ≡ true → all_fine (rs ++ (r ∷ [])) ≡ true
unfolding all_fine
fine_push [] r e h = ap (λ (t : Bool). t && true) h
fine_push (q ∷ rs) r e h = let p = and_parts (fine q) (all_fine rs) e in and_from (fine q) (all_fine (rs ++ (r ∷ []))) p.0 (fine_push rs r p.1 h)

pub fine_lifted : (rs : List Rule) (i : ℕ) → all_fine rs ≡ true → all_fine (take i rs ++ drop (suc i) rs) ≡ true
unfolding all_fine
fine_lifted [] zero e = refl
fine_lifted [] (suc i) e = refl
fine_lifted (r ∷ rs) zero e = (and_parts (fine r) (all_fine rs) e).1
fine_lifted (r ∷ rs) (suc i) e = let p = and_parts (fine r) (all_fine rs) e in and_from (fine r) (all_fine (take i rs ++ drop (suc i) rs)) p.0 (fine_lifted rs i p.1)

-- ---- what was written reads back

slot_back : (r : Rule) (ys : List ℕ) → fine r ≡ true → slot_rule (slot r ++ ys) ≡ Some r
unfolding rule_number
slot_back (takes a b r) ys h = ap (λ (t : Bool). pick t (Some (takes a b r)) None) h
slot_back (gives a b r) ys h = ap (λ (t : Bool). pick t (Some (gives a b r)) None) h
slot_back (takes_sum a b s) ys h = ap (λ (t : Bool). pick t (Some (takes_sum a b s)) None) h
slot_back (gives_sum a b s) ys h = ap (λ (t : Bool). pick t (Some (gives_sum a b s)) None) h
slot_back (fades a r s) ys h = ap (λ (t : Bool). pick t (Some (fades a r s)) None) h

-- for slots of any width whose first words tell the rule
module _ (f : Rule → List ℕ) (w : ℕ) (long : (r : Rule) → length (f r) ≡ w) (back : (r : Rule) (ys : List ℕ) → fine r ≡ true → slot_rule (f r ++ ys) ≡ Some r) where
  read_back : (rs : List Rule) (ys : List ℕ) (d : Rule) → all_fine rs ≡ true → (k : ℕ) → k ≤ length rs → rules_of w (flat_map f rs ++ ys) k ≡ Some (take k rs)
  unfolding rules_of
  read_back rs ys d e zero l = refl
  read_back rs ys d e (suc k) l =
      let s : k + 1 ≡ suc k = omega arith in
      ap (λ (o : Option (List Rule)). one_more o (slot_rule (drop (w * k) (flat_map f rs ++ ys)))) (read_back rs ys d e k (omega arith)) ∙
      ap (λ (x : List ℕ). one_more (Some (take k rs)) (slot_rule x)) (drop_slots f w long rs ys k d (omega arith)) ∙
      ap (one_more (Some (take k rs))) (back (get_or rs k d) (flat_map f (drop (suc k) rs) ++ ys) (fine_at rs k d e (omega arith))) ∙
      ap Some (sym (take_more rs k d (omega arith)) ∙ ap (λ (n : ℕ). take n rs) s)

pub slots_back : (rs : List Rule) (ys : List ℕ) → all_fine rs ≡ true → rules_of width (flat_map slot rs ++ ys) (length rs) ≡ Some rs
slots_back rs ys e = read_back slot width slot_long slot_back rs ys (takes 0 0 0) e (length rs) (omega arith) ∙ ap Some (take_all (length rs) rs (omega arith))

-- ---- what is read is in range

fine_kept : (q r : Rule) → if_fine q ≡ Some r → fine r ≡ true
fine_kept q r e = elim (cases_Bool (fine q)) [ inl t ↦ let f : Some q ≡ Some r = rw t at e in let g : q ≡ r = cc in ap fine (sym g) ∙ t | inr t ↦ none_some r (rw t at e) ]

slot_fine : (ws : List ℕ) (r : Rule) → slot_rule ws ≡ Some r → fine r ≡ true
slot_fine ws r e =
    elim (cases_Bool (leb (get_or ws 0 0) 4)) [
      | inl t ↦ fine_kept (rule_from (get_or ws 0 0) (get_or ws 1 0) (get_or ws 2 0) (get_or ws 3 0)) r (rw t at e)
      | inr t ↦ none_some r (rw t at e)
    ]

parts : (o : Option (List Rule)) (q : Option Rule) (rs : List Rule) → one_more o q ≡ Some rs → (ps : List Rule) × (r : Rule) × (o ≡ Some ps) × (q ≡ Some r) × (rs ≡ ps ++ (r ∷ []))
parts None q rs e = none_some rs e
parts (Some ps) None rs e = none_some rs e
parts (Some ps) (Some r) rs e = (ps, r, refl, refl, cc)

pub rules_fine : (w : ℕ) (ws : List ℕ) (n : ℕ) (rs : List Rule) → rules_of w ws n ≡ Some rs → (all_fine rs ≡ true) × (length rs ≡ n)
unfolding rules_of all_fine
rules_fine w ws zero rs e = let f : rs ≡ [] = cc in (rw f refl, rw f refl)
rules_fine w ws (suc n) rs e =
    let p = parts (rules_of w ws n) (slot_rule (drop (w * n) ws)) rs e in
    let i = rules_fine w ws n p.0 p.2 in
    (ap all_fine p.4 ∙ fine_push p.0 p.1 i.0 (slot_fine (drop (w * n) ws) p.1 p.3), ap length p.4 ∙ length_push p.0 p.1 ∙ omega (arith, i.1))

-- ---- one slot more

-- a slot's rule is told by its first four words
part_rule : (ws : List ℕ) (n : ℕ) → 4 ≤ n → slot_rule (take n ws) ≡ slot_rule ws
part_rule ws n h =
    let e0 = get_or-take n ws 0 0 (omega arith) in
    let e1 = get_or-take n ws 1 0 (omega arith) in
    let e2 = get_or-take n ws 2 0 (omega arith) in
    let e3 = get_or-take n ws 3 0 (omega arith) in
    rw (e0, e1, e2, e3) refl

-- read one more, from a part that begins k words into the words
pub rules_step : (w : ℕ) (ws : List ℕ) (k i n : ℕ) → 4 ≤ n → rules_of w (drop k ws) (i + 1) ≡ one_more (rules_of w (drop k ws) i) (slot_rule (take n (drop (k + w * i) ws)))
unfolding rules_of
rules_step w ws k i n h =
    let s : i + 1 ≡ suc i = omega arith in
    ap (rules_of w (drop k ws)) s ∙ ap (λ (x : List ℕ). one_more (rules_of w (drop k ws) i) (slot_rule x)) (drop-drop (w * i) k ws) ∙
    ap (one_more (rules_of w (drop k ws) i)) (sym (part_rule (drop (k + w * i) ws) n h))

-- once a slot holds no rule, no more slots do
pub none_later : (w : ℕ) (ws : List ℕ) (i d n : ℕ) → n ≡ i + d → rules_of w ws i ≡ None → rules_of w ws n ≡ None
unfolding rules_of
none_later w ws i zero n l e = let s : n ≡ i = omega arith in ap (rules_of w ws) s ∙ e
none_later w ws i (suc d) n l e =
    let s : n ≡ suc (i + d) = omega arith in
    ap (rules_of w ws) s ∙ ap (λ (o : Option (List Rule)). one_more o (slot_rule (drop (w * (i + d)) ws))) (none_later w ws i d (i + d) refl e)

-- one rule's words more, behind any words h
pub slots_more : (f : Rule → List ℕ) (h : List ℕ) (rules : List declared.Rule) (i : ℕ) (d : declared.Rule) → i < length rules →
    (h ++ flat_map f (map meant (take i rules))) ++ f (meant (get_or rules i d)) ≡ h ++ flat_map f (map meant (take (i + 1) rules))
slots_more f h rules i d l = flat_map_more f h (map meant (take i rules)) (meant (get_or rules i d)) ∙ ap (λ (x : List Rule). h ++ flat_map f x) (sym (map_more meant rules i d l))

-- ---- the code's rules

pub meant_lifted : (rules : List declared.Rule) (i : ℕ) → map meant (take i rules ++ drop (suc i) rules) ≡ take i (map meant rules) ++ drop (suc i) (map meant rules)
meant_lifted rules i =
    map-append meant (take i rules) (drop (suc i) rules) ∙
    ap (λ (x : List Rule). x ++ map meant (drop (suc i) rules)) (sym (take-map meant i rules)) ∙ ap (λ (x : List Rule). take i (map meant rules) ++ x) (sym (drop-map meant (suc i) rules))
