-- The words of a line, and the numbers among them. Definitions only: nothing is assumed.
use Rattle.std.specs.Prelude.{ℕ, ◌+◌, ◌-◌, ◌*◌, Bool, not, ◌&&◌, ◌||◌, List, [], ◌∷◌, map, length, Option, Some, None, option_map, unwrap_or, codes, ◌==◌, nat_lt}
use Rattle.std.specs.Char.{is_ascii_digit}
use Rattle.std.specs.Str.{bytes_eq, all_ascii_digits}
use Rattle.std.specs.Str.Parse.{digits_value}
use Rattle.std.specs.List.{filter, slice_split}
use Rattle.raise.specs.Rules.{pick, lesser}
use Rattle.text.specs.declared.cuts.Stop.{Stop}
use Rattle.text.specs.declared.cuts.Stop.TheVariants.{Comment, Point, Blank, NonBlank}
use Rattle.text.specs.declared.words.Word.{Word}
use Rattle.text.specs.declared.words.Word.TheVariants.{Bound, Take, Give, Fade, From, To, On, Below, At, Above, Percent, Number, Decimal, Other}

-- ---- cuts

-- up to the first byte that passes a test, and from it on
abbrev pub before : (ℕ → Bool) → List ℕ → List ℕ
before stops [] = []
before stops (c ∷ cs) = pick (stops c) [] (c ∷ before stops cs)

abbrev pub onward : (ℕ → Bool) → List ℕ → List ℕ
onward stops [] = []
onward stops (c ∷ cs) = pick (stops c) (c ∷ cs) (onward stops cs)

-- a blank: a space, a tab, and a carriage return, too, as it may stand before a newline
abbrev pub is_blank : ℕ → Bool
is_blank c = c == 32 || (c == 9 || c == 13)

-- what ends a part: '#', '.', a blank, or anything else
abbrev pub stops : Stop → ℕ → Bool
stops Comment c = c == 35
stops Point c = c == 46
stops Blank c = is_blank c
stops NonBlank c = not (is_blank c)

abbrev pub is_empty : List ℕ → Bool
is_empty w = length w == 0

-- the words of a text: what stands between blanks
unfoldable pub words_in : List ℕ → List (List ℕ)
words_in line = filter (λ w. not (is_empty w)) (slice_split is_blank line)

-- ---- numbers

-- the number that digits write, if it is below 2^32
abbrev pub number_of : List ℕ → Option ℕ
number_of w = pick (not (is_empty w) && (all_ascii_digits w && nat_lt (digits_value 10 w) 4294967296)) (Some (digits_value 10 w)) None

-- the hundredths that one or two digits after a point write
abbrev pub hundredths : List ℕ → Option ℕ
hundredths (t ∷ []) = pick (is_ascii_digit t) (Some (10 * (t - 48))) None
hundredths (t ∷ (h ∷ [])) = pick (is_ascii_digit t && is_ascii_digit h) (Some (10 * (t - 48) + (h - 48))) None
hundredths ds = None

-- a whole number and hundredths, in hundredths; from 2^32 on it counts as the greatest below that
abbrev pub in_hundredths : ℕ → ℕ → ℕ
in_hundredths whole part = lesser (100 * whole + part) 4294967295

-- a number, and what stands from its point on
abbrev pub with_part : Option ℕ → List ℕ → Option Word
with_part None part = None
with_part (Some whole) [] = Some (Number whole)
with_part (Some whole) (p ∷ part) = option_map (λ n. Decimal (in_hundredths whole n)) (hundredths part)

-- a number, with a point in it or without
abbrev pub number_word : List ℕ → Option Word
number_word w = with_part (number_of (before (stops Point) w)) (onward (stops Point) w)

-- the word that bytes are
abbrev pub word_of : List ℕ → Word
word_of w =
    pick (bytes_eq w (codes "bound")) Bound
    (pick (bytes_eq w (codes "take")) Take
    (pick (bytes_eq w (codes "give")) Give
    (pick (bytes_eq w (codes "fade")) Fade
    (pick (bytes_eq w (codes "from")) From
    (pick (bytes_eq w (codes "to")) To
    (pick (bytes_eq w (codes "on")) On
    (pick (bytes_eq w (codes "below")) Below
    (pick (bytes_eq w (codes "at")) At
    (pick (bytes_eq w (codes "above")) Above
    (pick (bytes_eq w (codes "%")) Percent (unwrap_or (number_word w) Other)))))))))))

-- the words of a line, up to its comment
unfoldable pub words_of : List ℕ → List Word
words_of line = map word_of (words_in (before (stops Comment) line))
