-- Numbers as bytes, in any width: written and read back, and read and written back.
use Rattle.std.proofs.Common.{◌≡◌, ℕ, zero, suc, ◌+◌, ◌*◌, ◌/◌, ◌%◌, ◌^◌, ◌<◌, ◌≤◌, true, ltb, List, [], ◌∷◌, ◌++◌, length, take, drop, sym, refl, ap, ◌∙◌, arith}
use Rattle.std.proofs.lemmas.List.{take_at, drop_at, take_all, drop-drop, take-append-drop, length-append, length-take-le, length-drop}
use Rattle.std.proofs.lemmas.Bool.{and_parts, ltb-true}
use Rattle.raise.specs.Promise.{all_below}
use Rattle.raise.proofs.Below.{below_take, below_drop}
use Rattle.wire.specs.Fields.{bytes_of, number_of, number_at}

pub bytes_long : (k n : ℕ) → length (bytes_of k n) ≡ k
unfolding bytes_of
bytes_long zero n = refl
bytes_long (suc k) n = ap suc (bytes_long k (n / 256))

-- reading what was written gives it back
pub number_back : (k n : ℕ) → n < 256 ^ k → number_of (bytes_of k n) ≡ n
unfolding bytes_of number_of
number_back zero n l = omega arith
number_back (suc k) n l = omega (arith, number_back k (n / 256) (omega arith))

-- and writing what was read gives it back
pub bytes_back : (k : ℕ) (bs : List ℕ) → length bs ≡ k → all_below 256 bs ≡ true → bytes_of k (number_of bs) ≡ bs
unfolding bytes_of number_of all_below
bytes_back zero [] l h = refl
bytes_back zero (b ∷ bs) l h = absurd (omega arith)
bytes_back (suc k) [] l h = absurd (omega arith)
bytes_back (suc k) (b ∷ bs) l h =
    let p = and_parts (ltb b 256) (all_below 256 bs) h in
    let u : b < 256 = ltb-true b 256 p.0 in
    let r : (b + 256 * number_of bs) % 256 ≡ b = omega arith in
    let q : (b + 256 * number_of bs) / 256 ≡ number_of bs = omega arith in
    let i = bytes_back k bs (omega arith) p.1 in
    rw (r, q, i)

pub number_below : (k : ℕ) (bs : List ℕ) → length bs ≡ k → all_below 256 bs ≡ true → number_of bs < 256 ^ k
unfolding number_of all_below
number_below zero [] l h = omega arith
number_below zero (b ∷ bs) l h = absurd (omega arith)
number_below (suc k) [] l h = absurd (omega arith)
number_below (suc k) (b ∷ bs) l h =
    let p = and_parts (ltb b 256) (all_below 256 bs) h in
    omega (arith, ltb-true b 256 p.0, number_below k bs (omega arith) p.1)

-- ---- three numbers of one width, one after the other

abbrev pub row : ℕ → ℕ → ℕ → ℕ → List ℕ
row w a b c = bytes_of w a ++ (bytes_of w b ++ bytes_of w c)

pub row_long : (w a b c : ℕ) → length (row w a b c) ≡ w + (w + w)
row_long w a b c = rw (length-append, length-append, bytes_long w a, bytes_long w b, bytes_long w c)

pub row_first : (w a b c : ℕ) → a < 256 ^ w → number_of (take w (row w a b c)) ≡ a
row_first w a b c l = ap number_of (take_at (bytes_of w a) (bytes_of w b ++ bytes_of w c) w (bytes_long w a)) ∙ number_back w a l

pub row_second : (w a b c : ℕ) → b < 256 ^ w → number_at w (row w a b c) w ≡ b
row_second w a b c l =
    ap (λ (t : List ℕ). number_of (take w t)) (drop_at (bytes_of w a) (bytes_of w b ++ bytes_of w c) w (bytes_long w a)) ∙
    ap number_of (take_at (bytes_of w b) (bytes_of w c) w (bytes_long w b)) ∙ number_back w b l

pub row_third : (w a b c : ℕ) → c < 256 ^ w → number_at w (row w a b c) (w + w) ≡ c
row_third w a b c l =
    ap (λ (t : List ℕ). number_of (take w t))
    (sym (drop-drop w w (row w a b c)) ∙ ap (drop w) (drop_at (bytes_of w a) (bytes_of w b ++ bytes_of w c) w (bytes_long w a)) ∙ drop_at (bytes_of w b) (bytes_of w c) w (bytes_long w b)) ∙
    ap number_of (take_all w (bytes_of w c) (omega (arith, bytes_long w c))) ∙ number_back w c l

-- bytes of three widths are such a row
pub row_back : (w : ℕ) (bs : List ℕ) → length bs ≡ w + (w + w) → all_below 256 bs ≡ true → row w (number_of (take w bs)) (number_at w bs w) (number_at w bs (w + w)) ≡ bs
row_back w bs l h =
    let a : bytes_of w (number_of (take w bs)) ≡ take w bs = bytes_back w (take w bs) (length-take-le w bs (omega arith)) (below_take 256 w bs h) in
    let d : length (drop w bs) ≡ w + w = omega (arith, length-drop w bs) in
    let e : length (drop (w + w) bs) ≡ w = omega (arith, length-drop (w + w) bs) in
    let b : bytes_of w (number_at w bs w) ≡ take w (drop w bs) = bytes_back w (take w (drop w bs)) (length-take-le w (drop w bs) (omega arith)) (below_take 256 w (drop w bs) (below_drop 256 w bs h)) in
    let t : take w (drop (w + w) bs) ≡ drop (w + w) bs = take_all w (drop (w + w) bs) (omega arith) in
    let c : bytes_of w (number_at w bs (w + w)) ≡ drop (w + w) bs = ap (λ (x : List ℕ). bytes_of w (number_of x)) t ∙ bytes_back w (drop (w + w) bs) e (below_drop 256 (w + w) bs h) in
    rw (a, b, c) (ap (λ (x : List ℕ). take w bs ++ (take w (drop w bs) ++ x)) (sym (drop-drop w w bs)) ∙ ap (λ (x : List ℕ). take w bs ++ x) (take-append-drop w (drop w bs)) ∙ take-append-drop w bs)

-- and its numbers fit
pub number_fits : (w i : ℕ) (bs : List ℕ) → w + i ≤ length bs → all_below 256 bs ≡ true → number_at w bs i < 256 ^ w
number_fits w i bs l h = number_below w (take w (drop i bs)) (length-take-le w (drop i bs) (omega (arith, length-drop i bs))) (below_take 256 w (drop i bs) (below_drop 256 i bs h))
