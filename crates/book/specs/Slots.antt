-- Things of one width in words, one after the other. Definitions only: nothing is assumed.
use Rattle.std.specs.Prelude.{◌≡◌, ℕ, ◌*◌, ◌<◌, List, length, take, drop, Option, slice_get}

-- each of them reads back from its place
unfoldable pub StoredBy : {X : Type 0} → (List ℕ → Option X) → ℕ → List ℕ → List X → Type 0
StoredBy read w ws xs = (i : ℕ) → i < length xs → read (take w (drop (w * i) ws)) ≡ slice_get xs i
