-- What a line says: nothing, the granule, a partition, a task, or what was expected in it first. Assumes nothing.
use Rattle.std.specs.Prelude.{ℕ, List, Bool, true, false, not, take, bytes_eq, is_none, unwrap_or, Result, Ok, Err}
use Rattle.rules.specs.Walk.{pick}
use Rattle.output.specs.Text.{bytes}
use Rattle.share_line.specs.declared.What.{What}
use Rattle.share_line.specs.declared.What.TheVariants.{Record, Number, Slash, End, EarlyGranule}
use Rattle.share_line.specs.declared.Row.{Row}
use Rattle.share_line.specs.declared.Row.TheVariants.{Nothing, Granule, Partition, Task}
use Rattle.share_words.specs.Words.{comment, found, word_at, ends_at, rest_of, numeral}

-- the number at place k, and whether none stands there
abbrev pub number_at : List ℕ → ℕ → ℕ
number_at l k = unwrap_or (numeral (word_at l k)) 0

abbrev pub none_at : List ℕ → ℕ → Bool
none_at l k = is_none (numeral (word_at l k))

-- `G`, behind the word `granule`
unfoldable pub granule_row : List ℕ → Result Row What
granule_row l = pick (none_at l 0) (Err Number) (pick (ends_at l 1) (Ok (Granule (number_at l 0))) (Err End))

-- `CYCLE NUM/DEN`, behind the word `partition`
unfoldable pub part_row : List ℕ → Result Row What
part_row l =
    pick (none_at l 0) (Err Number)
    (pick (none_at l 1) (Err Number)
    (pick (not (bytes_eq (word_at l 2) (bytes "/"))) (Err Slash)
    (pick (none_at l 3) (Err Number)
    (pick (ends_at l 4) (Ok (Partition (number_at l 0) (number_at l 1) (number_at l 3))) (Err End)))))

-- `PARTITION C D T`, behind the word `task`
unfoldable pub task_row : List ℕ → Result Row What
task_row l =
    pick (none_at l 0) (Err Number)
    (pick (none_at l 1) (Err Number)
    (pick (none_at l 2) (Err Number)
    (pick (none_at l 3) (Err Number)
    (pick (ends_at l 4) (Ok (Task (number_at l 0) (number_at l 1) (number_at l 2) (number_at l 3))) (Err End)))))

-- a line of words: none, or the record that its first word names
unfoldable pub record_of : List ℕ → Result Row What
record_of l =
    pick (ends_at l 0) (Ok Nothing)
    (pick (bytes_eq (word_at l 0) (bytes "granule")) (granule_row (rest_of l))
    (pick (bytes_eq (word_at l 0) (bytes "partition")) (part_row (rest_of l))
    (pick (bytes_eq (word_at l 0) (bytes "task")) (task_row (rest_of l))
    (Err Record))))

-- a comment goes from `#` to the end of its line
unfoldable pub row_of : List ℕ → Result Row What
row_of line = record_of (take (found comment line) line)

-- the granule is given once, before the partitions: behind such a line it comes too late
abbrev pub closes : Result Row What → Bool
closes (Ok Nothing) = false
closes (Ok (Granule g)) = true
closes (Ok (Partition m n d)) = true
closes (Ok (Task p c d t)) = false
closes (Err w) = false

-- a line that can't be read, or that gives the granule behind a line that closes it
abbrev pub is_wrong : Bool → Result Row What → Bool
is_wrong closed (Ok Nothing) = false
is_wrong closed (Ok (Granule g)) = closed
is_wrong closed (Ok (Partition m n d)) = false
is_wrong closed (Ok (Task p c d t)) = false
is_wrong closed (Err w) = true

-- what was expected in a line that is wrong
abbrev pub what_of : Result Row What → What
what_of (Ok Nothing) = End
what_of (Ok (Granule g)) = EarlyGranule
what_of (Ok (Partition m n d)) = End
what_of (Ok (Task p c d t)) = End
what_of (Err w) = w
