-- Calls as bytes: which bytes a call is, and what any bytes are. Nothing is assumed.
--
-- A call is a byte for its kind, 0 to 4 for lay, lift, left, row and safe, and its fields, four bytes each, low byte first.
-- A rule is a byte for its kind, 0 to 4 for take, give, take a sum, give a sum and fade, and three such fields.
use Rattle.std.specs.Prelude.{◌≡◌, ℕ, suc, ◌+◌, ◌<◌, Bool, true, false, ◌⊎◌, List, [], ◌∷◌, ◌++◌, length, take, drop, Ok, Err, Result, ◌==◌, ◌≢◌, nat_lt, slice_index}
use Rattle.raise.specs.Rules.{pick, Rule, takes, gives, takes_sum, gives_sum, fades}
use Rattle.raise.specs.Calls.{Call, lays, lifts, left_of, next_row, safe, garbled, rule_number}
use Rattle.raise.specs.Promise.{readable, all_below}
use Rattle.wire.specs.Fields.{bytes_of, number_at}

-- ---- the bytes of a call

abbrev pub three : ℕ → ℕ → ℕ → List ℕ
three a b c = bytes_of 4 a ++ (bytes_of 4 b ++ bytes_of 4 c)

abbrev pub rule_fields : Rule → List ℕ
rule_fields (takes a b r) = three a b r
rule_fields (gives a b r) = three a b r
rule_fields (takes_sum a b s) = three a b s
rule_fields (gives_sum a b s) = three a b s
rule_fields (fades a r s) = three a r s

-- a rule's three numbers
abbrev pub numbers : Rule → List ℕ
numbers (takes a b r) = a ∷ (b ∷ (r ∷ []))
numbers (gives a b r) = a ∷ (b ∷ (r ∷ []))
numbers (takes_sum a b s) = a ∷ (b ∷ (s ∷ []))
numbers (gives_sum a b s) = a ∷ (b ∷ (s ∷ []))
numbers (fades a r s) = a ∷ (r ∷ (s ∷ []))

abbrev pub rule_bytes : Rule → List ℕ
rule_bytes r = rule_number r ∷ rule_fields r

-- the number of a call's kind (bytes that are no call have none)
abbrev pub call_number : Call → ℕ
call_number (lays r) = 0
call_number (lifts i) = 1
call_number (left_of g) = 2
call_number (next_row g) = 3
call_number (safe g) = 4
call_number (garbled n) = 5

abbrev pub call_fields : Call → List ℕ
call_fields (lays r) = rule_bytes r
call_fields (lifts i) = bytes_of 4 i
call_fields (left_of g) = bytes_of 4 g
call_fields (next_row g) = bytes_of 4 g
call_fields (safe g) = bytes_of 4 g
call_fields (garbled n) = []

abbrev pub call_bytes : Call → List ℕ
call_bytes c = call_number c ∷ call_fields c

-- ---- what any bytes are

-- just k bytes are `whole`; else the place where they end too early, or of the first one too many
abbrev pub sized : {A : Type 0} → ℕ → List ℕ → A → (ℕ → A) → A
sized k bs whole broken = pick (nat_lt (length bs) k) (broken (length bs)) (pick (nat_lt k (length bs)) (broken k) whole)

abbrev pub rule_from : ℕ → ℕ → ℕ → ℕ → Rule
rule_from k a b c = pick (k == 0) (takes a b c) (pick (k == 1) (gives a b c) (pick (k == 2) (takes_sum a b c) (pick (k == 3) (gives_sum a b c) (fades a b c))))

-- the rule, or the place of the first byte that doesn't fit
abbrev pub rule_of : List ℕ → Result Rule ℕ
rule_of bs =
    pick (length bs == 0) (Err 0)
    (pick (nat_lt 4 (slice_index bs 0)) (Err 0)
    (sized 13 bs (Ok (rule_from (slice_index bs 0) (number_at 4 bs 1) (number_at 4 bs 5) (number_at 4 bs 9))) (λ n. Err n)))

abbrev pub laid : Result Rule ℕ → Call
laid (Ok r) = lays r
laid (Err n) = garbled (n + 1)

-- the one field of a call, or the place
abbrev pub one_field : List ℕ → Result ℕ ℕ
one_field bs = sized 5 bs (Ok (number_at 4 bs 1)) (λ n. Err n)

abbrev pub with_field : (ℕ → Call) → Result ℕ ℕ → Call
with_field call (Ok n) = call n
with_field call (Err n) = garbled n

-- the call, or `garbled` with the place of the first byte that doesn't fit
abbrev pub call_of : List ℕ → Call
call_of bs =
    pick (length bs == 0) (garbled 0)
    (pick (slice_index bs 0 == 0) (laid (rule_of (drop 1 bs)))
    (pick (slice_index bs 0 == 1) (with_field lifts (one_field bs))
    (pick (slice_index bs 0 == 2) (with_field left_of (one_field bs))
    (pick (slice_index bs 0 == 3) (with_field next_row (one_field bs))
    (pick (slice_index bs 0 == 4) (with_field safe (one_field bs)) (garbled 0))))))

-- ---- what is promised of these

abbrev pub is_garbled : Call → Bool
is_garbled (lays r) = false
is_garbled (lifts i) = false
is_garbled (left_of g) = false
is_garbled (next_row g) = false
is_garbled (safe g) = false
is_garbled (garbled n) = true

-- a call that bytes can write
abbrev pub Writable : Call → Type 0
Writable c = (readable c ≡ true) × (is_garbled c ≡ false)

-- reading what was written gives it back
abbrev pub CallsReadBack : Type 0
CallsReadBack = (c : Call) → Writable c → call_of (call_bytes c) ≡ c

-- two calls have different bytes
abbrev pub CallsDiffer : Type 0
CallsDiffer = (c d : Call) → Writable c → Writable d → call_bytes c ≡ call_bytes d → c ≡ d

-- what is read as a call is that call's bytes, and nothing else; its fields fit
abbrev pub OnlyCallsRead : Type 0
OnlyCallsRead = (bs : List ℕ) → all_below 256 bs ≡ true → (readable (call_of bs) ≡ true) × (is_garbled (call_of bs) ≡ false → call_bytes (call_of bs) ≡ bs)

-- bytes that some call begins with
abbrev pub Begins : List ℕ → Type 0
Begins bs = (c : Call) × (rest : List ℕ) × Writable c × (bs ++ rest ≡ call_bytes c)

-- the place of a refusal is right: the bytes before it begin some call, and either they end there, being none themselves,
-- or with the byte at it they begin none
abbrev pub PlaceRight : Type 0
PlaceRight =
    (bs : List ℕ) (n : ℕ) → all_below 256 bs ≡ true → call_of bs ≡ garbled n →
    Begins (take n bs) × (((n ≡ length bs) × ((c : Call) → Writable c → call_bytes c ≢ bs)) ⊎ ((n < length bs) × (Begins (take (suc n) bs) → ⊥)))
