-- What chunks of words are read as, and lists turned round.
use Rattle.std.proofs.Common.{◌≡◌, ℕ, zero, suc, ◌+◌, ◌*◌, ◌<◌, ◌≤◌, List, [], ◌∷◌, ◌++◌, map, reverse, length, get_or, take, drop, Some, Option, sym, refl, ap, ◌∙◌, arith}
use Rattle.std.specs.List.{AllByRecursion}
use Rattle.book.specs.Slots.{StoredBy}
use Rattle.std.specs.Simd.{first_chunks}
use Rattle.std.proofs.lemmas.List.{drop-drop, map-append, length-map, length_push, same_from_push}
use Rattle.std.proofs.lemmas.Grind.{reverse_onto}

-- if each slot of w words reads as what is at its place, the first chunks do
pub chunks_read : {X : Type 0} (read : List ℕ → Option X) (w : ℕ) (xs : List X) (k : ℕ) (ws : List ℕ) → length xs ≤ k → StoredBy read w ws xs →
    map read (take (length xs) (first_chunks w k ws)) ≡ map Some xs
unfolding StoredBy
chunks_read read w [] k ws le s = refl
chunks_read read w (x ∷ xs) zero ws le s = absurd (omega arith)
chunks_read {X = X} read w (x ∷ xs) (suc k) ws le s =
    let z : w * 0 ≡ 0 = omega arith in
    let here : read (take w ws) ≡ Some x = ap (λ (n : ℕ). read (take w (drop n ws))) (sym z) ∙ s 0 (omega arith) in
    let later = chunks_read read w xs k (drop w ws) (omega arith)
    (λ i l. ap (λ (us : List ℕ). read (take w us)) (drop-drop (w * i) w ws) ∙ ap (λ (n : ℕ). read (take w (drop n ws))) (omega arith) ∙ s (suc i) (omega arith)) in
    ap (λ (o : Option X). o ∷ map read (take (length xs) (first_chunks w k (drop w ws)))) here ∙ ap (λ (os : List (Option X)). Some x ∷ os) later

-- the one at a place
pub read_at : {X : Type 0} (read : List ℕ → Option X) (xs : List X) (chunks : List (List ℕ)) (i : ℕ) (d : List ℕ) → map read chunks ≡ map Some xs → i < length chunks →
    (x : X) × (read (get_or chunks i d) ≡ Some x) × (drop i xs ≡ x ∷ drop (i + 1) xs)
read_at read xs [] i d e l = absurd (omega arith)
read_at read [] (c ∷ chunks) i d e l = absurd (let z = ap length e in omega (arith, z))
read_at read (x ∷ xs) (c ∷ chunks) zero d e l = (x, cc, refl)
read_at read (x ∷ xs) (c ∷ chunks) (suc i) d e l =
    let t : map read chunks ≡ map Some xs = cc in
    let k = read_at read xs chunks i d t (omega arith) in
    let s : suc i + 1 ≡ suc (i + 1) = omega arith in
    (k.0, k.1, rw s k.2)

-- ---- turned round

pub map_back : {X Y : Type 0} (f : X → Y) (xs : List X) → reverse (map f xs) ≡ map f (reverse xs)
map_back f [] = refl
map_back {X = X} {Y = Y} f (x ∷ xs) =
    reverse_onto (map f xs) (f x) [] ∙ ap (λ (ys : List Y). ys ++ (f x ∷ [])) (map_back f xs) ∙ sym (map-append f (reverse xs) (x ∷ [])) ∙ ap (map f) (sym (reverse_onto xs x []))

-- what is read from chunks, the last of which is the next: the first of what is ahead
pub next_read : {X : Type 0} (read : List ℕ → Option X) (xs : List X) (chunks : List (List ℕ)) (ws : List ℕ) → map read (chunks ++ (ws ∷ [])) ≡ map Some (reverse xs) →
    (x : X) × (ds : List X) × (xs ≡ x ∷ ds) × (map read chunks ≡ map Some (reverse ds)) × (read ws ≡ Some x)
next_read {X = X} read [] chunks ws e =
    let l : length (map read chunks ++ (read ws ∷ [])) ≡ 0 = ap length (sym (map-append read chunks (ws ∷ [])) ∙ e) in
    absurd (omega (arith, l, length_push (map read chunks) (read ws)))
next_read {X = X} read (x ∷ xs) chunks ws e =
    let q : map read chunks ++ (read ws ∷ []) ≡ map Some (reverse xs) ++ (Some x ∷ []) =
    sym (map-append read chunks (ws ∷ [])) ∙ e ∙ ap (map Some) (reverse_onto xs x []) ∙ map-append Some (reverse xs) (x ∷ []) in
    let s = same_from_push (map read chunks) (map Some (reverse xs)) (read ws) (Some x) q in
    (x, xs, refl, s.0, s.1)

pub none_ahead : {X : Type 0} (read : List ℕ → Option X) (xs : List X) (chunks : List (List ℕ)) → length chunks ≡ 0 → map read chunks ≡ map Some (reverse xs) → xs ≡ []
none_ahead read [] chunks z e = refl
none_ahead {X = X} read (x ∷ xs) chunks z e =
    let l : length (map read chunks) ≡ length (reverse xs) + 1 = ap length (e ∙ ap (map Some) (reverse_onto xs x []) ∙ map-append Some (reverse xs) (x ∷ [])) ∙ length_push (map Some (reverse xs)) (Some x) ∙ ap (λ n. n + 1) (length-map (reverse xs) Some) in
    absurd (omega (arith, l, z, length-map chunks read))

pub all_split : {X : Type 0} (P : X → Type 0) (xs : List X) (x : X) → AllByRecursion P (xs ++ (x ∷ [])) → AllByRecursion P xs × P x
all_split P [] x a = (tt, a.0)
all_split P (y ∷ xs) x a = let i = all_split P xs x a.1 in ((a.0, i.0), i.1)
