-- Entries in words: how many these are for each, and what reads back.
use Rattle.std.proofs.Common.{◌≡◌, ℕ, ◌≤◌, ◌-◌, true, ltb, List, ◌++◌, length, take, drop, ℤ, Some, None, Option, refl, ap, ◌∙◌, append_assoc, w64, arith}
use borrow.Rule.Slice.PartMut.{put_mid}
use Rattle.std.specs.List.{AllByRecursion}
use Rattle.std.proofs.lemmas.Int.{to_z-of_z}
use Rattle.std.proofs.lemmas.List.{drop_at, length-take-le}
use Rattle.std.proofs.lemmas.Bool.{lt-ltb}
use Rattle.book.proofs.Stored.{slots_read}
use Rattle.segments.specs.declared.lines.Segment.{Segment}
use Rattle.lowest.specs.declared.entries.Entry.{Entry}
use Rattle.lowest.specs.Entries.{width, lowest_words, entry_words, table_words, read_entry, Fits, ReadsBack}
use Rattle.lowest.specs.Table.{Stored}

lowest_long : (m : Option ℤ) → length (lowest_words m) ≡ 2
lowest_long None = refl
lowest_long (Some m) = refl

pub entry_long : (e : Entry) → length (entry_words e) ≡ width
entry_long e = omega (arith, lowest_long e.lowest_above)

-- ---- back from words

back : (s : Segment) (m : Option ℤ) → Fits (record { segment = s; lowest_above = m }) → read_entry (entry_words (record { segment = s; lowest_above = m })) ≡ Some (record { segment = s; lowest_above = m })
back s None f =
    let p : ltb s.from 4294967296 ≡ true = lt-ltb _ _ (omega (arith, f.from)) in
    let q : ltb s.to 4294967296 ≡ true = lt-ltb _ _ (omega (arith, f.to)) in
    rw (p, q, to_z-of_z w64 s.net f.net, to_z-of_z w64 s.slope f.slope) refl
back s (Some m) f =
    let p : ltb s.from 4294967296 ≡ true = lt-ltb _ _ (omega (arith, f.from)) in
    let q : ltb s.to 4294967296 ≡ true = lt-ltb _ _ (omega (arith, f.to)) in
    rw (p, q, to_z-of_z w64 s.net f.net, to_z-of_z w64 s.slope f.slope, to_z-of_z w64 m f.lowest) refl

pub reads_back : ReadsBack
reads_back e f = back e.segment e.lowest_above f

stored : (es : List Entry) (ys : List ℕ) → AllByRecursion Fits es → Stored (table_words es ++ ys) es
stored es ys a = slots_read entry_words width entry_long read_entry Fits reads_back es ys a

-- in the part of ws from its k-th word on that us was written to
pub stored_at : (k : ℕ) (ws us vs : List ℕ) (es : List Entry) → k ≤ length ws → us ≡ table_words es ++ vs → AllByRecursion Fits es → Stored (drop k (put_mid k (length ws - k) ws us)) es
stored_at k ws us vs es l e a =
    let rest = drop (length ws - k) (drop k ws) in
    let d : drop k (put_mid k (length ws - k) ws us) ≡ us ++ rest = drop_at (take k ws) (us ++ rest) k (length-take-le k ws l) in
    let f : us ++ rest ≡ table_words es ++ (vs ++ rest) = ap (λ (x : List ℕ). x ++ rest) e ∙ append_assoc (table_words es) vs rest in
    rw (d ∙ f) (stored es (vs ++ rest) a)
