-- Which rules hold, bit by bit.
use Rattle.std.proofs.Common.{◌≡◌, ℕ, ◌+◌, ◌*◌, ◌%◌, ◌^◌, ◌<◌, ◌≤◌, true, false, ◌&&◌, eqb, ltb, List, map, length, get_or, ◌≢◌, sym, refl, ap, ◌∙◌, inl, inr, arith, w64}
use lib.Bits.{bit_or}
use Rattle.std.proofs.lemmas.Nat.Bits.{bit_at_set_same, bit_at_set_other}
use Rattle.std.proofs.lemmas.List.{get_or-map, get_or_past, length-map}
use Rattle.std.proofs.lemmas.Bool.{cases_eq, cases_Bool, ltb-false}
use Rattle.raise.specs.Rules.{Rule}
use Rattle.raise.specs.Net.{holds}
use Rattle.wire.specs.declared.calls.Rule as declared
use Rattle.wire.specs.Meaning.{meant}
use Rattle.book.specs.Meant.{all_meant}
use Rattle.segments.specs.Bits.{marked, nth_holds, Holding}

module _ (rules : List declared.Rule) (g : ℕ) where
  -- the bits of m tell which of the first i rules hold, and no others are set
  abbrev pub Tells : ℕ → ℕ → Type 0
  Tells i m = (k : ℕ) → marked m k ≡ (ltb k i && nth_holds (all_meant rules) g k)

  nth : (i : ℕ) (d : declared.Rule) → i < length rules → nth_holds (all_meant rules) g i ≡ holds (meant (get_or rules i d)) g
  nth i d l =
      get_or-map (λ r. holds r g) (all_meant rules) i (meant d) false (omega (arith, length-map rules meant)) ∙ ap (λ (r : Rule). holds r g) (get_or-map meant rules i d (meant d) l)

  -- the same number or another, whose bits are the same but for the i-th
  one_more : (i m n : ℕ) (d : declared.Rule) → i < length rules → Tells i m → ((k : ℕ) → k ≢ i → marked n k ≡ marked m k) → marked n i ≡ holds (meant (get_or rules i d)) g →
      Tells (i + 1) n
  one_more i m n d l h others this k =
      elim (cases_eq k i) [
        | inl same ↦ let e : ltb i (i + 1) ≡ true = grind arith in rw (same, e) (this ∙ sym (nth i d l))
        | inr other ↦ let e : ltb k (i + 1) ≡ ltb k i = grind arith in rw e (others k other ∙ h k)
      ]

  module _ (i m : ℕ) (d : declared.Rule) (l : i < length rules) (h : Tells i m) where
    pub it_holds : i < 64 → holds (meant (get_or rules i d)) g ≡ true → Tells (i + 1) (bit_or m (1 * 2 ^ i % 2 ^ 64))
    it_holds low t = one_more i m _ d l h (λ k ne. ap (λ (n : ℕ). eqb n 1) (bit_at_set_other w64 m i low k ne)) (ap (λ (n : ℕ). eqb n 1) (bit_at_set_same w64 m i low) ∙ sym t)

    pub it_fails : holds (meant (get_or rules i d)) g ≡ false → Tells (i + 1) m
    it_fails t = let e : ltb i i ≡ false = grind arith in one_more i m m d l h (λ k ne. refl) (h i ∙ rw (e, t) refl)

  pub all_rules : (i m : ℕ) → length rules ≤ i → Tells i m → Holding (all_meant rules) g m
  all_rules i m l h k =
      elim (cases_Bool (ltb k i)) [
        | inl t ↦ h k ∙ rw t refl
        | inr u ↦ h k ∙ rw u (sym (get_or_past (map (λ r. holds r g) (all_meant rules)) k false (omega (arith, length-map rules meant, length-map (all_meant rules) (λ r. holds r g), ltb-false k i u))))
      ]
