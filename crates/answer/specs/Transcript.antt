-- What the program prints for a file of calls: a line for each call; and what a head lacks. Nothing is assumed.
use Rattle.std.specs.Prelude.{ℕ, List, [], ◌∷◌, ◌++◌, map, drop, replicate, codes, nat_lt}
use Rattle.raise.specs.Rules.{pick}
use Rattle.raise.specs.Calls.{Call, Answer, Limits, refused, number, two, answers}
use Rattle.wire.specs.Fields.{number_at}
use Rattle.wire.specs.CallBytes.{call_of}
use Rattle.wire.specs.Files.{calls_in}
use Rattle.book.specs.Held.{asked}
use Rattle.session.specs.Memory.{limited, opening, told_words}
use Rattle.text.specs.Shown.{line, refusal_line}

-- a line for each call and its answer
unfoldable pub lines : List Call → List Answer → List ℕ
lines [] xs = []
lines (c ∷ cs) [] = []
lines (c ∷ cs) (a ∷ xs) = (line c a ++ codes "\n") ++ lines cs xs

-- the lines for the bytes of calls, asked of any words
abbrev pub lines_for : List ℕ → List (List ℕ) → List ℕ
lines_for ws css = lines (map call_of css) (told_words ws (map call_of css))

-- the lines for calls that follow one another in bytes
abbrev pub lines_on : List ℕ → List ℕ → List ℕ
lines_on ws bs = lines_for ws (calls_in bs)

-- a refusal at opening is the only line
abbrev pub unless_opened : Answer → List ℕ → List ℕ
unless_opened (refused k n) all = refusal_line k n ++ codes "\n"
unless_opened (number n) all = all
unless_opened (two m n) all = all

-- what is told of the calls that bytes are, where a book with these limits is opened in these words: the written book's answers
abbrev pub told_in : List ℕ → Limits → List ℕ → List ℕ
told_in ws l bs = unless_opened (opening ws l) (lines (map call_of (calls_in bs)) (answers l [] (map call_of (calls_in bs))))

-- of a file: its head has the limits, and memory is lent for 16 rules
abbrev pub transcript : List ℕ → List ℕ
transcript file = told_in (replicate (asked 16) 0) (limited (number_at 4 file 0) (number_at 4 file 4)) (drop 8 file)

-- what a head lacks that ends after n bytes: the bound, and the limit too where even its four bytes are not all there
abbrev pub missing : ℕ → List ℕ
missing n = pick (nat_lt n 4) (codes "the limit of rules and the bound are missing") (codes "the bound is missing")
