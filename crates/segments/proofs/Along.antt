-- Along a stretch without breakpoints inside the same rules hold.
use Rattle.std.proofs.Common.{◌≡◌, ℕ, zero, suc, ◌+◌, ◌*◌, ◌/◌, ◌<◌, ◌≤◌, true, ◌&&◌, ltb, leb, List, [], ◌∷◌, sym, refl, ◌∙◌, arith}
use Rattle.raise.specs.Rules.{Rule, takes, gives, takes_sum, gives_sum, fades}
use Rattle.raise.specs.Net.{breaks, breakpoints, clear, holds}
use Rattle.raise.proofs.Straight.{Off, off}
use Rattle.segments.specs.Bits.{nth_holds, Holding}

module _ (from to g : ℕ) (lo : from ≤ g) (hi : g < to) where
  between : (a b : ℕ) → Off from g a → Off from g b → (leb a g && ltb g b) ≡ (leb a from && ltb from b)
  between a b ca cb = grind arith

  up_to_last : (a b : ℕ) → Off from g a → Off from g (suc b) → (leb a g && leb g b) ≡ (leb a from && leb from b)
  up_to_last a b ca cb = grind arith

  begun : (a : ℕ) → Off from g a → leb a g ≡ leb a from
  begun a ca = grind arith

  by_two : (a b : ℕ) (xs : List ℕ) → clear (a ∷ (b ∷ xs)) from to ≡ true → ((leb a g && ltb g b) ≡ (leb a from && ltb from b)) × (clear xs from to ≡ true)
  by_two a b xs c = let p = off from to g hi a (b ∷ xs) c in let q = off from to g hi b xs p.1 in (between a b p.0 q.0, q.1)

  one : (r : Rule) (xs : List ℕ) → clear (breaks r xs) from to ≡ true → (holds r g ≡ holds r from) × (clear xs from to ≡ true)
  one (takes a b r) xs c = by_two a b xs c
  one (gives a b r) xs c = by_two a b xs c
  one (takes_sum a b s) xs c = by_two a b xs c
  one (gives_sum a b s) xs c = by_two a b xs c
  one (fades a zero s) xs c = let p = off from to g hi a xs c in (begun a p.0, p.1)
  one (fades a (suc r) s) xs c =
      let last = a + 10000 * s / suc r in
      let p = off from to g hi a (suc last ∷ xs) c in
      let q = off from to g hi (suc last) xs p.1 in
      (up_to_last a last p.0 q.0, q.1)

  all : (rs : List Rule) → clear (breakpoints rs) from to ≡ true → (i : ℕ) → nth_holds rs g i ≡ nth_holds rs from i
  unfolding breakpoints
  all [] c i = refl
  all (r ∷ rs) c zero = (one r (breakpoints rs) c).0
  all (r ∷ rs) c (suc i) = all rs (one r (breakpoints rs) c).1 i

pub holding_along : (rs : List Rule) (m from to g : ℕ) → Holding rs from m → clear (breakpoints rs) from to ≡ true → from ≤ g → g < to → Holding rs g m
holding_along rs m from to g h c lo hi i = h i ∙ sym (all from to g lo hi rs c i)
