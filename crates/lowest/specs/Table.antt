-- The table: each segment of a book with the lowest net beyond it, from the last down to the first. Nothing is assumed.
use Rattle.std.specs.Prelude.{◌≡◌, ℕ, suc, ◌+◌, ◌*◌, ◌≤◌, Bool, false, ◌↔◌, List, [], ◌∷◌, ◌++◌, map, reverse, length, take, drop, None, IfSome, unsigned_abs}
use Rattle.std.specs.List.{AllByRecursion}
use Rattle.raise.specs.Rules.{pick, Rule, loses}
use Rattle.raise.specs.Net.{net}
use Rattle.raise.specs.Lowest.{lowest_from, Lowest, loses_at}
use Rattle.book.specs.Slots.{StoredBy}
use Rattle.segments.specs.declared.lines.Segment.{Segment}
use Rattle.segments.specs.Segments.{segments, on, SegmentOf, Sized}
use Rattle.lowest.specs.declared.entries.Entry.{Entry}
use Rattle.lowest.specs.Entries.{width, table_words, read_entry}

-- a segment with the lowest net of all earnings beyond it, up to b
abbrev pub entry : List Rule → ℕ → Segment → Entry
entry rs b s = record { segment = s; lowest_above = lowest_from rs b s.to }

-- all of them, the last segment first
unfoldable pub table : List Rule → ℕ → List Entry
table rs b = map (entry rs b) (reverse (segments rs b))

-- how many there can be
abbrev pub most_entries : List Rule → ℕ
most_entries rs = 2 * length rs + 1

-- the words ws with the table in the part that begins at the k-th, and nothing else changed
abbrev pub with_table : List ℕ → ℕ → List Entry → List ℕ
with_table ws k es = take k ws ++ (table_words es ++ drop (k + width * length es) ws)

-- ---- what the table says

-- the lowest above is a lower bound of what is left of all beyond, and that of one of them; there is none just where nothing is
-- beyond, which is the last segment
pub record EntryOf (rs : List Rule) (b : ℕ) (e : Entry) : Type 0 where
  pub segment : SegmentOf rs b e.segment
  pub lowest : Lowest (net rs) e.segment.to (suc b) e.lowest_above
  pub none : (e.lowest_above ≡ None) ↔ (e.segment.to ≡ suc b)

-- it has just the segments of the book, from the last down to the first
pub record TableOf (rs : List Rule) (b : ℕ) (es : List Entry) : Type 0 where
  pub segments : map (λ e. e.segment) es ≡ reverse (segments rs b)
  pub each : AllByRecursion (EntryOf rs b) es

-- the table does, and nothing else
abbrev pub IsTable : Type 0
IsTable = (rs : List Rule) (b : ℕ) → TableOf rs b (table rs b) × ((es : List Entry) → TableOf rs b es → es ≡ table rs b)

-- sizes that leave room to compute with an entry
pub record SizedEntry (e : Entry) : Type 0 where
  pub segment : Sized e.segment
  pub lowest : IfSome e.lowest_above (λ m. unsigned_abs m ≤ 1290000000000000)

-- ---- who loses, by the table alone

-- does g on the segment of an entry lose
abbrev pub loses_on : Entry → ℕ → Bool
loses_on e g = loses_at e.segment.from e.segment.to e.segment.net e.segment.slope e.lowest_above g

-- by the entry on whose segment g lies
unfoldable pub loses_by : List Entry → ℕ → Bool
loses_by [] g = false
loses_by (e ∷ es) g = pick (on e.segment g) (loses_on e g) (loses_by es g)

-- any table of a book tells of every earning up to the bound whether it loses
abbrev pub TableTells : Type 0
TableTells = (rs : List Rule) (b : ℕ) (es : List Entry) → TableOf rs b es → (g : ℕ) → g ≤ b → loses_by es g ≡ loses rs b g

-- ---- in words

-- each entry of a table reads back from its place in the words
abbrev pub Stored : List ℕ → List Entry → Type 0
Stored ws es = StoredBy read_entry width ws es
