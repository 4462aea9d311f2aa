-- A file is cut call by call, and a written file into what was written.
use Rattle.std.proofs.Common.{◌≡◌, ℕ, zero, suc, ◌<◌, ◌≤◌, List, [], ◌∷◌, ◌++◌, length, take, drop, sym, refl, ap, ◌∙◌, arith}
use Rattle.std.specs.List.{AllByRecursion}
use Rattle.std.proofs.lemmas.List.{take_at, drop_at, drop-drop, length-append}
use Rattle.wire.specs.Fields.{bytes_of, number_of, number_at}
use Rattle.wire.specs.Files.{first_call, after_call, cut, calls_in, records, file_of, CutByCut, FilesReadBack}
use Rattle.wire.proofs.Numbers.{bytes_long, number_back}
use Rattle.wire.proofs.Cuts.{after_shorter}

after_short : (b : ℕ) (bs : List ℕ) → length (after_call (b ∷ bs)) ≤ length bs
after_short b bs = omega (arith, after_shorter (b ∷ bs) (omega arith))

-- more turns than bytes change nothing
cut_empty : (k : ℕ) → cut k [] ≡ []
unfolding cut
cut_empty zero = refl
cut_empty (suc k) = refl

cut_enough : (j k : ℕ) (bs : List ℕ) → length bs ≤ j → length bs ≤ k → cut j bs ≡ cut k bs
unfolding cut
cut_enough j k [] l m = cut_empty j ∙ sym (cut_empty k)
cut_enough zero k (b ∷ bs) l m = absurd (omega arith)
cut_enough (suc j) zero (b ∷ bs) l m = absurd (omega arith)
cut_enough (suc j) (suc k) (b ∷ bs) l m =
    ap (λ (t : List (List ℕ)). first_call (b ∷ bs) ∷ t) (cut_enough j k (after_call (b ∷ bs)) (omega (arith, after_short b bs)) (omega (arith, after_short b bs)))

pub cut_by_cut : CutByCut
unfolding cut
cut_by_cut b bs = ap (λ (t : List (List ℕ)). first_call (b ∷ bs) ∷ t) (cut_enough (length bs) (length (after_call (b ∷ bs))) (after_call (b ∷ bs)) (after_short b bs) (omega arith))

pub cut_step : (bs : List ℕ) → 0 < length bs → calls_in bs ≡ first_call bs ∷ calls_in (after_call bs)
cut_step [] l = absurd (omega arith)
cut_step (b ∷ bs) l = cut_by_cut b bs

records_back : (cs : List (List ℕ)) → AllByRecursion (λ c. length c < 4294967296) cs → calls_in (records cs) ≡ cs
unfolding cut records
records_back [] h = refl
records_back (c ∷ cs) h =
    let w = bytes_long 4 (length c) in
    let t : number_at 4 (records (c ∷ cs)) 0 ≡ length c = ap number_of (take_at (bytes_of 4 (length c)) (c ++ records cs) 4 w) ∙ number_back 4 (length c) h.0 in
    let d : drop 4 (records (c ∷ cs)) ≡ c ++ records cs = drop_at (bytes_of 4 (length c)) (c ++ records cs) 4 w in
    let f : first_call (records (c ∷ cs)) ≡ c = rw (t, d) (take_at c (records cs) (length c) refl) in
    let a : after_call (records (c ∷ cs)) ≡ records cs = rw (t, d) (drop_at c (records cs) (length c) refl) in
    let i = records_back cs h.1 in
    cut_step (records (c ∷ cs)) (omega (arith, length-append (bytes_of 4 (length c)) (c ++ records cs), w)) ∙ rw (f, a, i)

pub files_read_back : FilesReadBack
files_read_back n b cs l m h =
    let v = bytes_long 4 n in
    let w = bytes_long 4 b in
    let rest = bytes_of 4 b ++ records cs in
    let d : drop 4 (file_of n b cs) ≡ rest = drop_at (bytes_of 4 n) rest 4 v in
    let e : drop 8 (file_of n b cs) ≡ records cs = sym (drop-drop 4 4 (file_of n b cs)) ∙ ap (drop 4) d ∙ drop_at (bytes_of 4 b) (records cs) 4 w in
    (ap number_of (take_at (bytes_of 4 n) rest 4 v) ∙ number_back 4 n l, ap (λ (x : List ℕ). number_of (take 4 x)) d ∙ ap number_of (take_at (bytes_of 4 b) (records cs) 4 w) ∙ number_back 4 b m, ap calls_in e ∙ records_back cs h)
