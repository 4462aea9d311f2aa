-- Numbers of four and of eight bytes, as the library's `from_le_bytes` and `to_le_bytes` write them out.
use Rattle.std.proofs.Common.{◌≡◌, ℕ, suc, ◌+◌, ◌*◌, ◌<◌, ◌≤◌, List, [], ◌∷◌, length, get_or, take, drop, w32, w64, refl, ◌∙◌, arith}
use Rattle.std.specs.List.{flat_map}
use Rattle.std.specs.Int.{from_le_bytes, to_le_bytes}
use Rattle.std.proofs.lemmas.List.{length-drop, length-take-le}
use Rattle.wire.specs.Fields.{bytes_of, number_of, number_at}

four_read : (bs : List ℕ) → length bs ≡ 4 → from_le_bytes w32 bs ≡ number_of bs
unfolding number_of
four_read (a ∷ (b ∷ (c ∷ (d ∷ [])))) l = omega arith
four_read [] l = absurd (omega arith)
four_read (a ∷ []) l = absurd (omega arith)
four_read (a ∷ (b ∷ [])) l = absurd (omega arith)
four_read (a ∷ (b ∷ (c ∷ []))) l = absurd (omega arith)
four_read (a ∷ (b ∷ (c ∷ (d ∷ (e ∷ bs))))) l = absurd (omega arith)

-- the lower half, and the higher one
halves : (a b c d : ℕ) (bs : List ℕ) → number_of (a ∷ (b ∷ (c ∷ (d ∷ bs)))) ≡ from_le_bytes w32 (a ∷ (b ∷ (c ∷ (d ∷ [])))) + 4294967296 * number_of bs
unfolding number_of
halves a b c d bs = omega arith

eight_read : (bs : List ℕ) → length bs ≡ 8 → from_le_bytes w64 bs ≡ number_of bs
eight_read (a ∷ (b ∷ (c ∷ (d ∷ bs)))) l =
    let e : length bs ≡ 4 = omega arith in
    let f = four_read bs e in
    omega (arith, halves a b c d bs)
eight_read [] l = absurd (omega arith)
eight_read (a ∷ []) l = absurd (omega arith)
eight_read (a ∷ (b ∷ [])) l = absurd (omega arith)
eight_read (a ∷ (b ∷ (c ∷ []))) l = absurd (omega arith)

-- what `from_le_bytes` answers at bytes that are cut out of others
pub four_at : (bs : List ℕ) (i : ℕ) → i + 4 ≤ length bs → from_le_bytes w32 (take 4 (drop i bs)) ≡ number_at 4 bs i
four_at bs i h = four_read (take 4 (drop i bs)) (length-take-le 4 (drop i bs) (omega (arith, length-drop i bs)))

pub eight_at : (bs : List ℕ) (i : ℕ) → i + 8 ≤ length bs → from_le_bytes w64 (take 8 (drop i bs)) ≡ number_at 8 bs i
eight_at bs i h = eight_read (take 8 (drop i bs)) (length-take-le 8 (drop i bs) (omega (arith, length-drop i bs)))

-- what `to_le_bytes` answers
pub four_written : (n : ℕ) → to_le_bytes w32 n ≡ bytes_of 4 n
unfolding bytes_of
four_written n = grind arith

pub eight_written : (n : ℕ) → to_le_bytes w64 n ≡ bytes_of 8 n
unfolding bytes_of
eight_written n = grind arith

-- numbers, each written out
module _ (write bytes : ℕ → List ℕ) (same : (n : ℕ) → write n ≡ bytes n) where
  pub all_written : (ns : List ℕ) (ws : List (List ℕ)) → length ws ≡ length ns → ((i : ℕ) → i < length ns → get_or ws i [] ≡ write (get_or ns i 0)) → flat_map (λ w. w) ws ≡ flat_map bytes ns
  all_written [] [] l h = refl
  all_written [] (w ∷ ws) l h = absurd (omega arith)
  all_written (n ∷ ns) [] l h = absurd (omega arith)
  all_written (n ∷ ns) (w ∷ ws) l h =
      let e : w ≡ bytes n = h 0 (omega arith) ∙ same n in
      let i = all_written ns ws (omega arith) (λ i l. h (suc i) (omega arith)) in
      rw (e, i)
