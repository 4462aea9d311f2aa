-- A file of calls: the limit of rules and the bound, four bytes each, low byte first; then for each call its length in
-- four bytes, and its bytes. Any bytes are cut into calls: a file that ends inside a call gives what is there of it as the
-- call, and one that ends inside a length gives an empty call. Nothing is assumed.
use Rattle.std.specs.Prelude.{◌≡◌, ℕ, zero, suc, ◌<◌, List, [], ◌∷◌, ◌++◌, length, take, drop}
use Rattle.std.specs.List.{AllByRecursion}
use Rattle.wire.specs.declared.files.Calls.{Calls}
use Rattle.wire.specs.Fields.{bytes_of, number_at}

-- the first call, and what comes after it
abbrev pub first_call : List ℕ → List ℕ
first_call bs = take (number_at 4 bs 0) (drop 4 bs)

abbrev pub after_call : List ℕ → List ℕ
after_call bs = drop (number_at 4 bs 0) (drop 4 bs)

-- at most k calls
unfoldable pub cut : ℕ → List ℕ → List (List ℕ)
cut zero bs = []
cut (suc k) [] = []
cut (suc k) (b ∷ bs) = first_call (b ∷ bs) ∷ cut k (after_call (b ∷ bs))

-- all calls: each takes at least a byte, so there are no more of them than bytes
abbrev pub calls_in : List ℕ → List (List ℕ)
calls_in bs = cut (length bs) bs

-- the calls that an iterator over them has still to give
abbrev pub calls_left : Calls → List (List ℕ)
calls_left calls = calls_in calls.rest.now

-- ---- what is promised of these

-- calls as they are written, each behind its length
unfoldable pub records : List (List ℕ) → List ℕ
records [] = []
records (c ∷ cs) = bytes_of 4 (length c) ++ (c ++ records cs)

-- a file as it is written: its limit, its bound, its calls
abbrev pub file_of : ℕ → ℕ → List (List ℕ) → List ℕ
file_of rules bound cs = bytes_of 4 rules ++ (bytes_of 4 bound ++ records cs)

-- any bytes are cut into the first call, and the calls of what comes after it
abbrev pub CutByCut : Type 0
CutByCut = (b : ℕ) (bs : List ℕ) → calls_in (b ∷ bs) ≡ first_call (b ∷ bs) ∷ calls_in (after_call (b ∷ bs))

-- a file that was written is read as what was written: its limit, its bound and its calls
abbrev pub FilesReadBack : Type 0
FilesReadBack =
    (rules bound : ℕ) (cs : List (List ℕ)) → rules < 4294967296 → bound < 4294967296 → AllByRecursion (λ c. length c < 4294967296) cs →
    (number_at 4 (file_of rules bound cs) 0 ≡ rules) × (number_at 4 (file_of rules bound cs) 4 ≡ bound) × (calls_in (drop 8 (file_of rules bound cs)) ≡ cs)
