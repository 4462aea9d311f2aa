-- What the code's book stands for, and what a book that was read from words keeps to. Nothing is assumed.
use Rattle.std.specs.Prelude.{◌≡◌, ℕ, ◌≤◌, List, length, take, Some, None, Option}
use Rattle.book.specs.Held as held
use Rattle.book.specs.Held.{Good, asked, book_of}
use Rattle.book.specs.Meant.{all_meant}
use Rattle.book.specs.declared.value.Book.TheInside.{Inside}

abbrev pub stands_for : Inside → held.Book
stands_for b = record { limit = b.limit; bound = b.bound; rules = all_meant (take b.count b.rules) }

-- a book that was read from these words
pub record ReadFrom (ws : List ℕ) (b : held.Book) : Type 0 where
  pub held : book_of ws ≡ Some b
  pub good : Good b
  pub long : asked b.limit ≤ length ws

abbrev pub ReadIf : List ℕ → Option held.Book → Type 0
ReadIf ws None = book_of ws ≡ None
ReadIf ws (Some b) = ReadFrom ws b
