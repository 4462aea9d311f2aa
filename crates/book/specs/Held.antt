-- A book, the words that hold it, and the book that any words hold. Nothing is assumed.
--
-- The front of the words: a tag that says that an opened book of this format is here, the limit of rules, the bound, and how
-- many rules there are. Then a slot for each rule up to the limit: the number of its kind and its three numbers. The rest of the
-- words that a book asks for is scratch, kept for tables that a question needs. Unused slots and scratch are zero after each call
-- that was accepted, so that equal books then have equal words.
use Rattle.std.specs.Prelude.{◌≡◌, ℕ, zero, suc, ◌+◌, ◌-◌, ◌*◌, ◌<◌, ◌≤◌, Bool, true, ◌&&◌, List, [], ◌∷◌, ◌++◌, length, drop, replicate, Some, None, Option, ◌==◌, nat_le, nat_lt, slice_index}
use Rattle.std.specs.List.{flat_map}
use Rattle.raise.specs.Rules.{pick, Rule, all_plus, all_minus}
use Rattle.raise.specs.Calls.{rule_number, fine}
use Rattle.wire.specs.CallBytes.{numbers, rule_from}

pub record Book : Type 0 where
  pub limit : ℕ
  pub bound : ℕ
  pub rules : List Rule

-- the book with other rules
abbrev pub with_rules : Book → List Rule → Book
with_rules b rs = record { limit = b.limit; bound = b.bound; rules = rs }

-- is there room for one rule more
abbrev pub has_room : Book → Bool
has_room b = nat_lt (length b.rules) b.limit

-- is there an i-th rule
abbrev pub has_rule : Book → ℕ → Bool
has_rule b i = nat_lt i (length b.rules)

-- how many words a book with a limit of n rules asks for
abbrev pub asked : ℕ → ℕ
asked n = 32 * n + 64

-- ---- the words of a book

abbrev pub tag : ℕ
tag = 1651470187

abbrev pub head_words : ℕ → ℕ → ℕ → List ℕ
head_words limit bound count = tag ∷ (limit ∷ (bound ∷ (count ∷ [])))

-- how many words a slot has
abbrev pub width : ℕ
width = 4

abbrev pub slot : Rule → List ℕ
slot r = rule_number r ∷ numbers r

-- where the scratch begins: behind the slots of a limit of n rules
abbrev pub scratch_from : ℕ → ℕ
scratch_from n = 4 + width * n

-- front and slots, and zeros up to the last word asked for
unfoldable pub image : Book → List ℕ
image b = (head_words b.limit b.bound (length b.rules) ++ flat_map slot b.rules) ++ replicate (asked b.limit - (4 + width * length b.rules)) 0

-- the words after its rules were changed: the book with the new ones, and what is behind it as it was
abbrev pub rewritten : List ℕ → Book → List Rule → List ℕ
rewritten ws b rs = image (with_rules b rs) ++ drop (asked b.limit) ws

-- ---- the book that words hold, if they hold one

abbrev pub if_fine : Rule → Option Rule
if_fine r = pick (fine r) (Some r) None

-- the rule that a slot's first words are, if it is in range
abbrev pub slot_rule : List ℕ → Option Rule
slot_rule ws = pick (nat_le (slice_index ws 0) 4) (if_fine (rule_from (slice_index ws 0) (slice_index ws 1) (slice_index ws 2) (slice_index ws 3))) None

abbrev pub one_more : Option (List Rule) → Option Rule → Option (List Rule)
one_more None o = None
one_more (Some rs) None = None
one_more (Some rs) (Some r) = Some (rs ++ (r ∷ []))

-- the rules of the first n slots, w words each
unfoldable pub rules_of : ℕ → List ℕ → ℕ → Option (List Rule)
rules_of w ws zero = Some []
rules_of w ws (suc n) = one_more (rules_of w ws n) (slot_rule (drop (w * n) ws))

abbrev pub opened : ℕ → ℕ → Option (List Rule) → Option Book
opened limit bound None = None
opened limit bound (Some rs) = Some (record { limit = limit; bound = bound; rules = rs })

-- is the front in range, and are there as many words as it asks for
abbrev pub head_fine : List ℕ → Bool
head_fine ws =
    (slice_index ws 0 == tag) && (nat_le (slice_index ws 1) 64 && (nat_le (slice_index ws 2) 1000000000 && (nat_le (slice_index ws 3) (slice_index ws 1) && nat_le (asked (slice_index ws 1)) (length ws))))

-- nothing is asked of unused slots and scratch
unfoldable pub book_of : List ℕ → Option Book
book_of ws = pick (head_fine ws) (opened (slice_index ws 1) (slice_index ws 2) (rules_of width (drop 4 ws) (slice_index ws 3))) None

-- ---- books within limits

unfoldable pub all_fine : List Rule → Bool
all_fine [] = true
all_fine (r ∷ rs) = fine r && all_fine rs

-- rules that a book can hold
pub record Within (rs : List Rule) : Type 0 where
  pub few : length rs ≤ 64
  pub fine : all_fine rs ≡ true

-- what every book keeps to
pub record Good (b : Book) : Type 0 where
  pub few : b.limit ≤ 64
  pub low : b.bound ≤ 1000000000
  pub room : length b.rules ≤ b.limit
  pub fine : all_fine b.rules ≡ true

-- ---- what is promised of these

-- an image reads back as its book, whatever stands behind it
abbrev pub ReadsBack : Type 0
ReadsBack = (b : Book) (ys : List ℕ) → Good b → book_of (image b ++ ys) ≡ Some b

-- whatever words hold is a good book, and has the words that it asks for
abbrev pub HoldsGood : Type 0
HoldsGood = (ws : List ℕ) (b : Book) → book_of ws ≡ Some b → Good b × (asked b.limit ≤ length ws)

-- different books have different images
abbrev pub ImagesDiffer : Type 0
ImagesDiffer = (a b : Book) → Good a → Good b → image a ≡ image b → a ≡ b

-- amounts have 63 bits, at every earning that a field can carry
abbrev pub AmountsFit : Type 0
AmountsFit = (rs : List Rule) (g : ℕ) → Within rs → g < 4294967296 → (all_plus rs g < 9223372036854775808) × (all_minus rs g < 9223372036854775808)
