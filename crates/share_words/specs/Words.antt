-- The words of a line, and which of them are numbers. Assumes nothing.
use Rattle.std.specs.Prelude.{ℕ, zero, suc, List, Bool, ◌&&◌, ◌||◌, not, length, get_or, take, drop, ltb, leb, eqb, Option, Some, None}
use Rattle.rules.specs.Walk.{pick, first}
use Prim.Native.Char.{code}
use Rattle.output.specs.Decimal.{value}

-- a space, a tab or a carriage return
unfoldable pub blank : ℕ → Bool
blank b = eqb b (code " ") || eqb b (code "\t") || eqb b (code "\r")

-- where a search stops: at a byte that is no blank; at one that ends a word; at `#`; at a newline; at one that is no digit
unfoldable pub solid : ℕ → Bool
solid b = not (blank b)

unfoldable pub ends_word : ℕ → Bool
ends_word b = blank b || eqb b (code "/")

unfoldable pub comment : ℕ → Bool
comment b = eqb b (code "#")

unfoldable pub newline : ℕ → Bool
newline b = eqb b (code "\n")

unfoldable pub no_digit : ℕ → Bool
no_digit b = not (leb (code "0") b && leb b (code "9"))

unfoldable pub stops_at : (ℕ → Bool) → List ℕ → ℕ → Bool
stops_at stops l k = stops (get_or l k 0)

-- the first place where it stops, or the end
abbrev pub found : (ℕ → Bool) → List ℕ → ℕ
found stops l = first (stops_at stops l) (length l)

-- words stand apart, and `/` is a word by itself
unfoldable pub width : List ℕ → ℕ
width l = pick (eqb (get_or l 0 0) (code "/")) 1 (found ends_word l)

abbrev pub trimmed : List ℕ → List ℕ
trimmed l = drop (found solid l) l

-- the first word, empty where there is none, and what stands behind it
unfoldable pub word_of : List ℕ → List ℕ
word_of l = take (width (trimmed l)) (trimmed l)

unfoldable pub rest_of : List ℕ → List ℕ
rest_of l = drop (width (trimmed l)) (trimmed l)

-- the word at place k
abbrev pub word_at : List ℕ → ℕ → List ℕ
word_at l zero = word_of l
word_at l (suc k) = word_at (rest_of l) k

-- no word is left from place k on
abbrev pub ends_at : List ℕ → ℕ → Bool
ends_at l k = eqb (length (word_at l k)) 0

-- what a number of two bytes can say
abbrev pub highest : ℕ
highest = 65535

-- a number: digits alone, at least one, and at most the highest
unfoldable pub is_number : List ℕ → Bool
is_number w = ltb 0 (length w) && leb (length w) (found no_digit w) && leb (value w 0) highest

-- what a number says; any other word says none
unfoldable pub numeral : List ℕ → Option ℕ
numeral w = pick (is_number w) (Some (value w 0)) None
