-- Rows in words: one more behind others, and what reads back.
use Rattle.std.proofs.Common.{◌≡◌, ℕ, suc, ◌+◌, ◌*◌, ◌<◌, ◌≤◌, true, ltb, List, [], ◌∷◌, ◌++◌, length, drop, Some, None, Option, sym, refl, ◌∙◌, arith}
use Rattle.std.specs.List.{AllByRecursion, flat_map}
use Rattle.std.proofs.lemmas.Bool.{or_left, or_right, and_parts, ltb-true, lt-ltb}
use Rattle.std.proofs.lemmas.List.{length_push}
use Rattle.raise.specs.declared.LosingRow.{LosingRow}
use Rattle.raise.specs.Rules.{Rule, loses}
use Rattle.raise.specs.Rows.{lies_in, lies_in_one, Apart, losing_rows}
use Rattle.raise.proofs.AllRows.{losing_found}
use Rattle.book.proofs.Stored.{one_written, slots_read}
use Rattle.losses.specs.Words.{width, row_words, with_row, how_many, read_row, Fits, ReadsBack, Stored}

range_long : (r : LosingRow) → length (row_words r) ≡ width
range_long r = refl

-- those written, and the last
abbrev pub with_last : List LosingRow → Option LosingRow → List LosingRow
with_last rows None = rows
with_last rows (Some r) = rows ++ (r ∷ [])

-- in words of which ws were there before
pub row_put : (ws us : List ℕ) (rows : List LosingRow) (count : ℕ) (last : Option LosingRow) → count ≡ length rows → us ≡ flat_map row_words rows ++ drop (width * count) ws →
    (how_many last + count ≡ length (with_last rows last)) × (with_row us count last ≡ flat_map row_words (with_last rows last) ++ drop (width * (how_many last + count)) ws)
row_put ws us rows count None c w = let z : 0 + count ≡ count = omega arith in (omega (arith, c), rw z w)
row_put ws us rows count (Some r) c w =
    let z : 1 + count ≡ length rows + 1 = omega (arith, c) in
    let o = one_written row_words width range_long rows r ws us (rw c at w) in
    (z ∙ sym (length_push rows r), rw (z, c) o)

-- ---- what reads back

pub reads_back : ReadsBack
reads_back r f =
    let p : ltb r.first 4294967296 ≡ true = lt-ltb _ _ f.first in
    let q : ltb r.last 4294967296 ≡ true = lt-ltb _ _ f.last in
    rw (p, q) refl

pub stored : (rs : List LosingRow) (ys us : List ℕ) → us ≡ flat_map row_words rs ++ ys → AllByRecursion Fits rs → Stored us rs
stored rs ys us e a = rw e (slots_read row_words width range_long read_row Fits reads_back rs ys a)

-- ---- rows up to a bound

below : (x e : ℕ) (rs : List LosingRow) → e ≤ 4294967296 → Apart x rs → ((g : ℕ) → lies_in_one rs g ≡ true → g < e) → AllByRecursion Fits rs
unfolding Apart lies_in_one
below x e [] le a h = tt
below x e (r ∷ rs) le a h =
    let in_it : lies_in r r.last ≡ true = grind (arith, a.1) in
    let lt = h r.last (or_left (lies_in r r.last) (lies_in_one rs r.last) in_it) in
    (record { first = omega (arith, lt, a.1); last = omega (arith, lt) }, below (r.last + 2) e rs le a.2 (λ g t. h g (or_right (lies_in r g) (lies_in_one rs g) t)))

pub rows_fit : (rs : List Rule) (b : ℕ) → suc b ≤ 1000000001 → AllByRecursion Fits (losing_rows rs b)
rows_fit rs b low =
    let i = losing_found rs b in
    below 0 (suc b) (losing_rows rs b) (omega (arith, low)) i.apart (λ g t. ltb-true g (suc b) (and_parts (ltb g (suc b)) (loses rs b g) (sym (i.exact g) ∙ t)).0)
