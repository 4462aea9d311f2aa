use Rattle.std.proofs.Common.{◌≡◌, ℕ, ◌+◌, ◌-◌, ◌*◌, ◌/◌, ◌<◌, ◌≤◌, List, length, get_or, take, drop, Some, None, Option, sym, refl, ap, ◌∙◌, arith}
use Rattle.std.specs.Simd.{first_chunks}
use Rattle.std.proofs.lemmas.List.{map_push, length-drop, length-set, length-take, take_more_set, take_rest, drop-drop, get_or-take}
use Rattle.raise.specs.Rules.{Rule}
use Rattle.wire.specs.Meaning.{meant}
use Rattle.book.specs.Held.{rules_of, width, slot_rule, one_more}
use Rattle.book.specs.Meant.{all_meant}
use Rattle.book.proofs.Fields.{first_set}
use Rattle.book.proofs.Places.{rules_step, none_later}
use Rattle.book.proofs.Stored.{chunk_of}
use Rattle.book.proofs.layout.read_rules.Goals as goal

-- with what the slot holds that the loop is at, in the words
slot_at : (ws : List ℕ) (count i : ℕ) (part : List ℕ) (slots : List (List ℕ)) → 4 + width * count ≤ length ws → i < count → part ≡ drop 4 ws → slots ≡ first_chunks 4 (length part / 4) part →
    (o : Option Rule) (d : List ℕ) → o ≡ slot_rule (get_or (take count slots) i d) → rules_of width (drop 4 ws) (i + 1) ≡ one_more (rules_of width (drop 4 ws) i) o
slot_at ws count i part slots l h p e o d q =
    let k = length part / 4 in
    let n : length part ≡ length ws - 4 = ap length p ∙ length-drop 4 ws in
    let m : i < k = omega arith in
    let s : get_or (take count slots) i d ≡ take 4 (drop (4 + width * i) ws) =
    get_or-take count slots i d h ∙ ap (λ (x : List (List ℕ)). get_or x i d) e ∙ chunk_of 4 k i part d m ∙ ap (λ (x : List ℕ). take 4 (drop (4 * i) x)) p ∙ ap (take 4) (drop-drop (4 * i) 4 ws) in
    rules_step width ws 4 i 4 (omega arith) ∙ ap (one_more (rules_of width (drop 4 ws) i)) (sym (q ∙ ap slot_rule s))

pub loop-i-init : goal.loop-i-init
unfolding rules_of
loop-i-init c = (refl, refl, record { there = omega arith; rest = refl })

pub returns-in_err-rules-clause-rules : goal.returns-in_err-rules-clause-rules
returns-in_err-rules-clause-rules c =
    let ws = c.args.words.now in
    let n = c.args.count in
    let i = c.loop-i.i in
    let l : i < n = omega (arith, length-take n c.as_chunks.result.0.now) in
    let s = slot_at ws n i _ _ c.requires.long l (take_rest ws 4) c.as_chunks.ensures.front None _ c.in_err-rules.ensures in
    let e : rules_of width (drop 4 ws) (i + 1) ≡ None = s ∙ ap (λ (o : Option (List Rule)). one_more o None) c.loop-i.invariant.0 in
    rw c.from_residual.ensures (sym (none_later width (drop 4 ws) (i + 1) (n - (i + 1)) n (omega arith) e))

pub loop-i-preserved : goal.loop-i-preserved
loop-i-preserved c =
    let ws = c.args.words.now in
    let n = c.args.count in
    let i = c.loop-i.i in
    let l : i < n = omega (arith, length-take n c.as_chunks.result.0.now) in
    let rs = c.loop-i.rules in
    let r = c.in_ok-rules.field-0 in
    let v = c.loop-i.invariant in
    let s = slot_at ws n i _ _ c.requires.long l (take_rest ws 4) c.as_chunks.ensures.front (Some (meant r)) _ c.in_ok-rules.ensures in
    let k : i < length rs = omega (arith, v.1, c.requires.few) in
    let t = ap all_meant (take_more_set rs i r k) ∙ map_push meant (take i rs) r in
    (s ∙ ap (λ (o : Option (List Rule)). one_more o (Some (meant r))) v.0 ∙ ap Some (sym t), length-set rs i r ∙ v.1, first_set rs i r v.2 k v.1)

pub returns : goal.returns
returns c =
    let v = c.loop-i.invariant in
    let i : c.loop-i.i ≡ c.args.count = omega (arith, length-take c.args.count c.as_chunks.result.0.now) in
    record { rules = sym (rw i at v.0); rest = rw i at v.2 }
