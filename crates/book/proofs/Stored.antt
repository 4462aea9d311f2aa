-- Things in slots of any width: what was written reads back, and one more behind others.
use Rattle.std.proofs.Common.{◌≡◌, ℕ, zero, suc, ◌+◌, ◌*◌, ◌<◌, List, [], ◌∷◌, ◌++◌, length, get_or, take, drop, Some, Option, sym, ap, ◌∙◌, append_assoc, arith}
use Rattle.std.specs.Simd.{first_chunks}
use Rattle.std.specs.List.{AllByRecursion, flat_map}
use Rattle.std.proofs.lemmas.List.{take_at, drop_at, drop-drop, length-append, flat_map_more}
use Rattle.book.specs.Slots.{StoredBy}

pub joined_long : {X : Type 0} (f : X → List ℕ) (w : ℕ) → ((x : X) → length (f x) ≡ w) → (xs : List X) → length (flat_map f xs) ≡ w * length xs
joined_long f w h [] = omega arith
joined_long f w h (x ∷ xs) = length-append (f x) (flat_map f xs) ∙ omega (arith, h x, joined_long f w h xs)

-- the k-th of slots that are all w words wide
pub drop_slots : {X : Type 0} (f : X → List ℕ) (w : ℕ) → ((x : X) → length (f x) ≡ w) → (xs : List X) (ys : List ℕ) (k : ℕ) (d : X) → k < length xs →
    drop (w * k) (flat_map f xs ++ ys) ≡ f (get_or xs k d) ++ (flat_map f (drop (suc k) xs) ++ ys)
drop_slots f w h [] ys k d l = absurd (omega arith)
drop_slots f w h (x ∷ xs) ys zero d l = let z : w * 0 ≡ 0 = omega arith in ap (λ (n : ℕ). drop n ((f x ++ flat_map f xs) ++ ys)) z ∙ append_assoc (f x) (flat_map f xs) ys
drop_slots f w h (x ∷ xs) ys (suc k) d l =
    let z : w * suc k ≡ w + w * k = omega arith in
    ap (λ (n : ℕ). drop n ((f x ++ flat_map f xs) ++ ys)) z ∙ sym (drop-drop (w * k) w ((f x ++ flat_map f xs) ++ ys)) ∙
    ap (λ (t : List ℕ). drop (w * k) (drop w t)) (append_assoc (f x) (flat_map f xs) ys) ∙
    ap (drop (w * k)) (drop_at (f x) (flat_map f xs ++ ys) w (h x)) ∙ drop_slots f w h xs ys k d (omega arith)

-- if the words of each that fits read back, each reads back from its place
pub slots_read : {X : Type 0} (f : X → List ℕ) (w : ℕ) → ((x : X) → length (f x) ≡ w) → (read : List ℕ → Option X) (P : X → Type 0) → ((x : X) → P x → read (f x) ≡ Some x) →
    (xs : List X) (ys : List ℕ) → AllByRecursion P xs → StoredBy read w (flat_map f xs ++ ys) xs
unfolding StoredBy
slots_read f w h read P back [] ys a i l = absurd (omega arith)
slots_read f w h read P back (x ∷ xs) ys a zero l =
    ap (λ (t : List ℕ). read (take w t)) (drop_slots f w h (x ∷ xs) ys 0 x l) ∙ ap read (take_at (f x) (flat_map f xs ++ ys) w (h x)) ∙ back x a.0
slots_read f w h read P back (x ∷ xs) ys a (suc i) l =
    let z : w * suc i ≡ w + w * i = omega arith in
    ap (λ (n : ℕ). read (take w (drop n ((f x ++ flat_map f xs) ++ ys)))) z ∙ ap (λ (t : List ℕ). read (take w t)) (sym (drop-drop (w * i) w ((f x ++ flat_map f xs) ++ ys))) ∙
    ap (λ (t : List ℕ). read (take w (drop (w * i) (drop w t)))) (append_assoc (f x) (flat_map f xs) ys) ∙
    ap (λ (t : List ℕ). read (take w (drop (w * i) t))) (drop_at (f x) (flat_map f xs ++ ys) w (h x)) ∙ slots_read f w h read P back xs ys a.1 i (omega arith)

-- one more behind those that were written, in words of which ws were there before
pub one_written : {X : Type 0} (f : X → List ℕ) (w : ℕ) → ((x : X) → length (f x) ≡ w) → (xs : List X) (x : X) (ws us : List ℕ) → us ≡ flat_map f xs ++ drop (w * length xs) ws →
    take (w * length xs) us ++ (f x ++ drop (w * length xs + w) us) ≡ flat_map f (xs ++ (x ∷ [])) ++ drop (w * (length xs + 1)) ws
one_written f w h xs x ws us e =
    let k = w * length xs in
    let t : take k us ≡ flat_map f xs = ap (take k) e ∙ take_at (flat_map f xs) (drop k ws) k (joined_long f w h xs) in
    let d : drop k us ≡ drop k ws = ap (drop k) e ∙ drop_at (flat_map f xs) (drop k ws) k (joined_long f w h xs) in
    let q : drop (k + w) us ≡ drop (w * (length xs + 1)) ws = sym (drop-drop w k us) ∙ ap (drop w) d ∙ drop-drop w k ws ∙ ap (λ (n : ℕ). drop n ws) (omega arith) in
    ap (λ (y : List ℕ). y ++ (f x ++ drop (k + w) us)) t ∙ ap (λ (y : List ℕ). flat_map f xs ++ (f x ++ y)) q ∙
    sym (append_assoc (flat_map f xs) (f x) (drop (w * (length xs + 1)) ws)) ∙ ap (λ (y : List ℕ). y ++ drop (w * (length xs + 1)) ws) (flat_map_more f [] xs x)

-- the i-th of the first chunks
pub chunk_of : {X : Type 0} (n k i : ℕ) (xs : List X) (d : List X) → i < k → get_or (first_chunks n k xs) i d ≡ take n (drop (n * i) xs)
chunk_of n zero i xs d l = absurd (omega arith)
chunk_of n (suc k) zero xs d l = let z : n * 0 ≡ 0 = omega arith in ap (λ (j : ℕ). take n (drop j xs)) (sym z)
chunk_of n (suc k) (suc i) xs d l =
    let s : n + n * i ≡ n * suc i = omega arith in
    chunk_of n k i (drop n xs) d (omega arith) ∙ ap (take n) (drop-drop (n * i) n xs) ∙ ap (λ (j : ℕ). take n (drop j xs)) s
