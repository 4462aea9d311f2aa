-- Rows in words. Definitions only: nothing is assumed.
use Rattle.std.specs.Prelude.{◌≡◌, ℕ, ◌+◌, ◌*◌, ◌<◌, ◌&&◌, List, [], ◌∷◌, ◌++◌, length, take, drop, Some, None, Option, nat_lt, slice_index}
use Rattle.std.specs.List.{flat_map}
use Rattle.raise.specs.declared.LosingRow.{LosingRow}
use Rattle.raise.specs.Rules.{pick, Rule}
use Rattle.book.specs.Slots.{StoredBy}
use Rattle.lowest.specs.Entries.{width as entry_width}
use Rattle.lowest.specs.Table.{most_entries}

-- how many words a row has
abbrev pub width : ℕ
width = 2

abbrev pub row_words : LosingRow → List ℕ
row_words r = r.first ∷ (r.last ∷ [])

-- the words ws with rows in the first of them, one after the other, and nothing else changed
abbrev pub with_rows : List ℕ → List LosingRow → List ℕ
with_rows ws rs = flat_map row_words rs ++ drop (width * length rs) ws

-- the words ws with the row, if there is one, as the i-th
abbrev pub with_row : List ℕ → ℕ → Option LosingRow → List ℕ
with_row ws i None = ws
with_row ws i (Some r) = take (width * i) ws ++ (row_words r ++ drop (width * i + width) ws)

-- how many rows that is
abbrev pub how_many : Option LosingRow → ℕ
how_many None = 0
how_many (Some r) = 1

-- ---- back from words

-- the row that words hold, if they hold one: earnings have 32 bits
abbrev pub read_row : List ℕ → Option LosingRow
read_row ws = pick (nat_lt (slice_index ws 0) 4294967296 && nat_lt (slice_index ws 1) 4294967296) (Some (record { first = slice_index ws 0; last = slice_index ws 1 })) None

-- a row whose numbers have the widths of the code's
pub record Fits (r : LosingRow) : Type 0 where
  pub first : r.first < 4294967296
  pub last : r.last < 4294967296

-- its words read back as the row
abbrev pub ReadsBack : Type 0
ReadsBack = (r : LosingRow) → Fits r → read_row (row_words r) ≡ Some r

-- each of many rows reads back from its place in the words
abbrev pub Stored : List ℕ → List LosingRow → Type 0
Stored ws rs = StoredBy read_row width ws rs

-- ---- room

-- how many words are asked for to find rows: the table's, and those of as many rows as there can be
abbrev pub row_room : List Rule → ℕ
row_room rs = entry_width * most_entries rs + width * most_entries rs
