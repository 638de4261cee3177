-- Words that only inner contracts use: no statement and no entry's contract cites them. Assumes nothing.
use Rattle.std.specs.Prelude.{◌≡◌, ℕ, List, Bool, true, false, ◌||◌, bytes_eq, Some, None, Result, Ok, Err}
use Rattle.std.specs.Borrow.{Bor}
use Rattle.output.specs.Text.{bytes}
use Rattle.share_line.specs.declared.What.{What}
use Rattle.share_line.specs.declared.What.TheVariants.{Number, Slash, End}
use Rattle.share_line.specs.declared.Row.{Row}
use Rattle.share_words.specs.Words.{word_of, rest_of, ends_at, numeral}
use Rattle.share_line.specs.Rows.{closes, is_wrong, what_of}

-- the number that l begins with, and what stands behind it
abbrev pub BeginsWithNumber : List ℕ → Result (ℕ × Bor (List ℕ)) What → Type 0
BeginsWithNumber l (Ok p) = (numeral (word_of l) ≡ Some p.0) × (p.1.now ≡ rest_of l)
BeginsWithNumber l (Err w) = (numeral (word_of l) ≡ None) × (w ≡ Number)

-- what stands behind the slash that l begins with
abbrev pub BeginsWithSlash : List ℕ → Result (Bor (List ℕ)) What → Type 0
BeginsWithSlash l (Ok r) = (bytes_eq (word_of l) (bytes "/") ≡ true) × (r.now ≡ rest_of l)
BeginsWithSlash l (Err w) = (bytes_eq (word_of l) (bytes "/") ≡ false) × (w ≡ Slash)

-- nothing stands in l any more
abbrev pub Ends : List ℕ → Result (Unit {0}) What → Type 0
Ends l (Ok u) = ends_at l 0 ≡ true
Ends l (Err w) = (ends_at l 0 ≡ false) × (w ≡ End)

-- a row behind others: whether a granule comes too late behind it, or what was expected in it, where it is wrong
abbrev pub Judged : Bool → Result Row What → Result Bool What → Type 0
Judged closed row (Ok c) = (is_wrong closed row ≡ false) × (c ≡ closes row || closed)
Judged closed row (Err w) = (is_wrong closed row ≡ true) × (w ≡ what_of row)
