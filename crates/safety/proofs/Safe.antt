-- One past the last earning of which less is left, an earning is safe.
use Rattle.std.proofs.Common.{◌≡◌, ℕ, suc, ◌+◌, ◌<◌, ◌≤◌, List, Some, None, Option, arith}
use Rattle.std.specs.Option.{unwrap_or}
use Rattle.raise.specs.Rules.{Rule}
use Rattle.raise.specs.Laws.{SafeTold}
use Rattle.safety.specs.Less.{LastLess}

module _ (rs : List Rule) (b g : ℕ) where
  pub past : (o : Option ℕ) (last : ℕ) → LastLess rs b g o → last ≡ unwrap_or o g → last < b → SafeTold rs b g (suc (last + 1))
  past None last safe e lt = rw e (omega arith, omega (arith, lt, e), λ k lo hi. safe k (omega (arith, lo)) hi, λ j lo hi. absurd (omega (arith, lo, hi)))
  past (Some x) last (above, within, less, safe) e lt =
      rw e (omega (arith, above), omega (arith, lt, e), λ k lo hi. safe k (omega (arith, lo)) hi, λ j lo hi. (x, omega (arith, hi), within, less))

  pub none_safe : (o : Option ℕ) (last : ℕ) → LastLess rs b g o → last ≡ unwrap_or o g → b ≤ last → SafeTold rs b g 0
  none_safe None last safe e le = λ j lo hi. absurd (omega (arith, lo, hi, le, e))
  none_safe (Some x) last (above, within, less, safe) e le = λ j lo hi. (x, omega (arith, hi, le, e), within, less)
