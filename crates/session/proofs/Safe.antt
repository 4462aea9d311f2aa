-- What is told of safe earnings, on the image of a good book with anything behind it.
use Rattle.std.proofs.Common.{◌≡◌, ℕ, ◌≤◌, List, ◌++◌, refl, ◌∙◌}
use Rattle.std.proofs.lemmas.Bool.{le-leb}
use Rattle.raise.specs.Rules.{Rule, safe_from}
use Rattle.raise.specs.Calls.{Limits, safe, number, turned, told, answer}
use Rattle.raise.proofs.Search.{safe_told}
use Rattle.book.specs.Held.{Book, Good, image}
use Rattle.session.specs.Memory.{limits, desk}
use Rattle.session.specs.Safe.{TellsSafe}
use Rattle.session.proofs.Steps.{says_behind}

answered : (l : Limits) (rs : List Rule) (g : ℕ) → g ≤ l.bound → answer l rs (safe g) ≡ number (safe_from rs l.bound g)
unfolding turned told
answered l rs g le = rw (le-leb g l.bound le) refl

pub tells_safe : (b : Book) (ys : List ℕ) → Good b → TellsSafe desk (record { words = image b ++ ys }) b.rules b.bound
unfolding TellsSafe
tells_safe b ys k g le = (safe_from b.rules b.bound g, says_behind b ys (safe g) k ∙ answered (limits b) b.rules g le, safe_told b.rules b.bound g)
