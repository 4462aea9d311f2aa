-- The fields of a book's value, which its limits and its rules tell. Nothing is assumed. That they do (`given_back`) is proved here and
-- not among the proofs, from which the block that says what a book is takes nothing.
use Rattle.std.specs.Prelude.{◌≡◌, ℕ, ◌-◌, ◌≤◌, List, [], ◌∷◌, ◌++◌, map, length, take, replicate}
use Rattle.std.proofs.Common.{sym, refl, ap, ◌∙◌}
use Rattle.std.proofs.lemmas.List.{length-map, length-take-le}
use Rattle.wire.specs.declared.calls.Rule.{Rule}
use Rattle.wire.specs.declared.calls.Rule.TheVariants.{Take, Give, TakeSum, GiveSum, Fade}
use Rattle.wire.specs.Meaning.{meant}
use Rattle.book.specs.Held as held
use Rattle.book.specs.Held.{Good}
use Rattle.book.specs.Meant.{all_meant, coded}
use Rattle.book.specs.Value.{stands_for}
use Rattle.book.specs.declared.value.Book.TheInside.{Inside}

-- stands where there is no rule
abbrev pub blank : Rule
blank = Take 0 0 0

-- the array of 64 that holds these in its first places
abbrev pub filled : List Rule → List Rule
filled rs = rs ++ replicate (64 - length rs) blank

-- an array whose first n are rules, and blank behind them
pub record AreFirst (n : ℕ) (rs : List Rule) : Type 0 where
  pub there : n ≤ length rs
  pub rest : rs ≡ filled (take n rs)

-- the fields of a book: within limits, as many rules as are counted, and blanks behind them
pub record Kept (b : Inside) : Type 0 where
  pub good : Good (stands_for b)
  pub first : AreFirst b.count b.rules

-- the fields of the book that stands for so much
abbrev pub fields_of : held.Book → Inside
fields_of b = record { limit = b.limit; bound = b.bound; count = length b.rules; rules = filled (map coded b.rules) }

one_back : (r : Rule) → coded (meant r) ≡ r
one_back (Take a b r) = refl
one_back (Give a b r) = refl
one_back (TakeSum a b s) = refl
one_back (GiveSum a b s) = refl
one_back (Fade a r s) = refl

all_back : (rs : List Rule) → map coded (all_meant rs) ≡ rs
all_back [] = refl
all_back (r ∷ rs) = λ i. one_back r i ∷ all_back rs i

pub given_back : (b : Inside) → Kept b → fields_of (stands_for b) ≡ b
given_back b k i =
    let rs = take b.count b.rules in
    let n : length (all_meant rs) ≡ b.count = length-map rs meant ∙ length-take-le b.count b.rules k.first.there in
    let e : filled (map coded (all_meant rs)) ≡ b.rules = ap filled (all_back rs) ∙ sym k.first.rest in
    record { limit = b.limit; bound = b.bound; count = n i; rules = e i }
