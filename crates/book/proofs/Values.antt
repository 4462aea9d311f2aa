-- The code's book as a value that was read from words.
use Rattle.std.proofs.Common.{◌≡◌, ℕ, List, get_or, drop, Some, None, Option, sym, refl}
use Rattle.raise.specs.Rules.{pick, Rule}
use Rattle.raise.proofs.Picks.{picked, not_picked}
use Rattle.book.specs.declared.layout.Front.{Front}
use Rattle.book.specs.Held.{Book, head_fine, rules_of, width, book_of}
use Rattle.book.specs.Value.{ReadFrom, ReadIf}
use Rattle.book.proofs.Laws.{held_good}

-- the front, as it is read
abbrev front_of : List ℕ → Front
front_of ws = record { limit = get_or ws 1 0; bound = get_or ws 2 0; count = get_or ws 3 0 }

abbrev front : List ℕ → Option Front
front ws = pick (head_fine ws) (Some (front_of ws)) None

pub no_front : (ws : List ℕ) → None ≡ front ws → book_of ws ≡ None
unfolding book_of
no_front ws e = rw (not_picked (head_fine ws) (front_of ws) e) refl

pub no_rules : (ws : List ℕ) (f : Front) → Some f ≡ front ws → None ≡ rules_of width (drop 4 ws) f.count → book_of ws ≡ None
unfolding book_of
no_rules ws f e n =
    let p = picked (head_fine ws) (front_of ws) f e in
    let s : rules_of width (drop 4 ws) (get_or ws 3 0) ≡ None = rw p.1 at (sym n) in
    rw (p.0, s) refl

pub whole : (ws : List ℕ) (f : Front) (rs : List Rule) → Some f ≡ front ws → Some rs ≡ rules_of width (drop 4 ws) f.count → ReadFrom ws (record { limit = f.limit; bound = f.bound; rules = rs })
unfolding book_of
whole ws f rs e n =
    let p = picked (head_fine ws) (front_of ws) f e in
    let s : rules_of width (drop 4 ws) (get_or ws 3 0) ≡ Some rs = rw p.1 at (sym n) in
    let b : Book = record { limit = f.limit; bound = f.bound; rules = rs } in
    let h : book_of ws ≡ Some b = rw (p.0, s, p.1) refl in
    let g = held_good ws b h in
    record { held = h; good = g.0; long = g.1 }

pub opened_if : (ws : List ℕ) (o : Option Book) → ReadIf ws o → o ≡ book_of ws
opened_if ws None h = sym h
opened_if ws (Some b) h = sym h.held
