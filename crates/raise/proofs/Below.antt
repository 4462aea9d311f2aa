-- Lists whose numbers all lie below a bound: their parts, and what is put together from such.
use Rattle.std.proofs.Common.{◌≡◌, ℕ, zero, suc, ◌<◌, true, ltb, List, [], ◌∷◌, ◌++◌, take, drop, replicate, refl}
use Rattle.std.proofs.lemmas.Bool.{and_parts, and_from, lt-ltb}
use Rattle.raise.specs.Promise.{all_below}

pub below_take : (m n : ℕ) (xs : List ℕ) → all_below m xs ≡ true → all_below m (take n xs) ≡ true
unfolding all_below
below_take m zero xs h = refl
below_take m (suc n) [] h = refl
below_take m (suc n) (x ∷ xs) h = let p = and_parts (ltb x m) (all_below m xs) h in and_from (ltb x m) (all_below m (take n xs)) p.0 (below_take m n xs p.1)

pub below_drop : (m n : ℕ) (xs : List ℕ) → all_below m xs ≡ true → all_below m (drop n xs) ≡ true
unfolding all_below
below_drop m zero xs h = h
below_drop m (suc n) [] h = refl
below_drop m (suc n) (x ∷ xs) h = below_drop m n xs (and_parts (ltb x m) (all_below m xs) h).1

pub below_both : (m : ℕ) (xs ys : List ℕ) → all_below m xs ≡ true → all_below m ys ≡ true → all_below m (xs ++ ys) ≡ true
unfolding all_below
below_both m [] ys p q = q
below_both m (x ∷ xs) ys p q = let s = and_parts (ltb x m) (all_below m xs) p in and_from (ltb x m) (all_below m (xs ++ ys)) s.0 (below_both m xs ys s.1 q)

pub below_zeros : (m n : ℕ) → 0 < m → all_below m (replicate n 0) ≡ true
unfolding all_below
below_zeros m zero h = refl
below_zeros m (suc n) h = and_from (ltb 0 m) (all_below m (replicate n 0)) (lt-ltb 0 m h) (below_zeros m n h)
