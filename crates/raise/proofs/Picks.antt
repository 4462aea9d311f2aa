-- What a value that is there, or is not, tells of the test by which it was picked.
use Rattle.std.proofs.Common.{◌≡◌, ℕ, Bool, true, false, Some, None, Option, sym, refl, arith}
use Rattle.raise.specs.Rules.{pick}

pub none_some : {A B : Type 0} (x : A) → ◌≡◌ {A = Option A} None (Some x) → B
none_some x e = absurd (let z : ◌≡◌ {A = ℕ} 0 1 = cc in omega arith)

pub picked : {A : Type 0} (t : Bool) (x y : A) → Some y ≡ pick {A = Option A} t (Some x) None → (t ≡ true) × (y ≡ x)
picked true x y e = (refl, cc)
picked false x y e = none_some y (sym e)

pub not_picked : {A : Type 0} (t : Bool) (x : A) → None ≡ pick {A = Option A} t (Some x) None → t ≡ false
not_picked true x e = none_some x e
not_picked false x e = refl
