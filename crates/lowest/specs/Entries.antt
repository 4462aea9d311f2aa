-- An entry of the table, and its words. Nothing is assumed.
use Rattle.std.specs.Prelude.{◌≡◌, ℕ, zero, suc, ◌<◌, ◌^◌, ◌&&◌, List, [], ◌∷◌, ℤ, FitsSigned, Some, None, Option, IfSome, nat_lt, slice_index}
use Rattle.std.specs.Int.{w64, cast_unsigned, cast_signed}
use Rattle.std.specs.List.{flat_map}
use Rattle.raise.specs.Rules.{pick}
use Rattle.segments.specs.declared.lines.Segment.{Segment}
use Rattle.lowest.specs.declared.entries.Entry.{Entry}

-- how many words an entry has
abbrev pub width : ℕ
width = 6

-- is there a lowest above, and which; 0 and 0 where there is none
abbrev pub lowest_words : Option ℤ → List ℕ
lowest_words None = 0 ∷ (0 ∷ [])
lowest_words (Some m) = 1 ∷ (cast_unsigned w64 m ∷ [])

-- both ends of the segment, its net and its slope, and the lowest above; a signed number is the word that has its bits
abbrev pub entry_words : Entry → List ℕ
entry_words e = e.segment.from ∷ (e.segment.to ∷ (cast_unsigned w64 e.segment.net ∷ (cast_unsigned w64 e.segment.slope ∷ lowest_words e.lowest_above)))

-- the words of entries, one after the other
abbrev pub table_words : List Entry → List ℕ
table_words es = flat_map entry_words es

-- ---- the entry that words hold, if they hold one

-- with the lowest above that two words hold
abbrev pub with_lowest : Segment → ℕ → ℕ → Option Entry
with_lowest s zero zero = Some (record { segment = s; lowest_above = None })
with_lowest s zero (suc m) = None
with_lowest s (suc zero) m = Some (record { segment = s; lowest_above = Some (cast_signed w64 m) })
with_lowest s (suc (suc k)) m = None

abbrev pub segment_of : ℕ → ℕ → ℕ → ℕ → Segment
segment_of from to v d = record { from = from; to = to; net = cast_signed w64 v; slope = cast_signed w64 d }

-- earnings have 32 bits
abbrev pub read_entry : List ℕ → Option Entry
read_entry ws =
    pick (nat_lt (slice_index ws 0) 4294967296 && nat_lt (slice_index ws 1) 4294967296)
    (with_lowest (segment_of (slice_index ws 0) (slice_index ws 1) (slice_index ws 2) (slice_index ws 3)) (slice_index ws 4) (slice_index ws 5)) None

-- ---- what is promised of these

-- an entry whose numbers have the widths of the code's
pub record Fits (e : Entry) : Type 0 where
  pub from : e.segment.from < 2 ^ 32
  pub to : e.segment.to < 2 ^ 32
  pub net : FitsSigned w64 e.segment.net
  pub slope : FitsSigned w64 e.segment.slope
  pub lowest : IfSome e.lowest_above (λ m. FitsSigned w64 m)

-- its words read back as the entry
abbrev pub ReadsBack : Type 0
ReadsBack = (e : Entry) → Fits e → read_entry (entry_words e) ≡ Some e
