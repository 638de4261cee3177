-- A share table as text: its lines in order, the first that is wrong, the granule, and the records of each kind. Assumes nothing.
use Rattle.std.specs.Prelude.{ℕ, zero, suc, ◌+◌, ◌≡◌, List, [], ◌∷◌, Bool, length, get_or, take, drop, ltb, Result, Ok, Err}
use Rattle.std.proofs.lemmas.List.Edits.{sets}
use Rattle.rules.specs.Walk.{pick, first, some, gathered}
use Rattle.rules.specs.declared.Refusal.{Refusal}
use Rattle.rules.specs.declared.Refusal.TheVariants.{Limits}
use Rattle.share_text.specs.declared.Expected.{Expected}
use Rattle.share_text.specs.declared.Numbers.{Numbers}
use Rattle.share_text.specs.declared.Unread.{Unread}
use Rattle.share_text.specs.declared.Unread.TheVariants as unread
use Rattle.share_line.specs.declared.Row.{Row}
use Rattle.share_line.specs.declared.Row.TheVariants.{Nothing, Granule, Partition, Task}
use Rattle.share_line.specs.declared.What.{What}
use Rattle.share_words.specs.Words.{newline, found}
use Rattle.share_line.specs.Rows.{row_of, closes, is_wrong, what_of}

-- the first line of a text, and the text behind its newline
unfoldable pub line_of : List ℕ → List ℕ
line_of t = take (found newline t) t

unfoldable pub after_line : List ℕ → List ℕ
after_line t = drop (found newline t + 1) t

-- the text from line k on; behind the last line nothing is left
unfoldable pub from_line : List ℕ → ℕ → List ℕ
from_line t zero = t
from_line t (suc k) = after_line (from_line t k)

-- what line k says; a text has no more lines with anything in them than it has bytes
unfoldable pub row_at : List ℕ → ℕ → Result Row What
row_at t k = row_of (line_of (from_line t k))

-- line k closes the granule
unfoldable pub closes_at : List ℕ → ℕ → Bool
closes_at t k = closes (row_at t k)

-- some line before it does
abbrev pub closed_at : List ℕ → ℕ → Bool
closed_at t k = some (closes_at t) k

unfoldable pub wrong_at : List ℕ → ℕ → Bool
wrong_at t k = is_wrong (closed_at t k) (row_at t k)

-- "the first line that is wrong", or the number of bytes
abbrev pub first_wrong : List ℕ → ℕ
first_wrong t = first (wrong_at t) (length t)

-- the numbers of a row that gives the granule, a partition or a task
abbrev pub granule_in : Result Row What → List ℕ
granule_in (Ok Nothing) = []
granule_in (Ok (Granule g)) = g ∷ []
granule_in (Ok (Partition m n d)) = []
granule_in (Ok (Task p c d t)) = []
granule_in (Err w) = []

abbrev pub part_in : Result Row What → List ℕ
part_in (Ok Nothing) = []
part_in (Ok (Granule g)) = []
part_in (Ok (Partition m n d)) = m ∷ n ∷ d ∷ []
part_in (Ok (Task p c d t)) = []
part_in (Err w) = []

abbrev pub task_in : Result Row What → List ℕ
task_in (Ok Nothing) = []
task_in (Ok (Granule g)) = []
task_in (Ok (Partition m n d)) = []
task_in (Ok (Task p c d t)) = p ∷ c ∷ d ∷ t ∷ []
task_in (Err w) = []

unfoldable pub nums_at : (Result Row What → List ℕ) → List ℕ → ℕ → List ℕ
nums_at nums t k = nums (row_at t k)

-- the table of such numbers: its records in the order of their lines
unfoldable pub records_of : (Result Row What → List ℕ) → List ℕ → List ℕ
records_of nums t = gathered (nums_at nums t) (length t)

-- the granule that a line gives, or 1: "g = 1 gives today's answers"
abbrev pub granule_of : List ℕ → ℕ
granule_of t = get_or (records_of granule_in t) 0 1

-- in bytes: a longer text is not read
abbrev pub longest_text : ℕ
longest_text = 65536

-- the first line that is wrong, from 1, and what was expected there
unfoldable pub seen_of : List ℕ → Result (Unit {0}) Expected
seen_of t = pick (ltb (first_wrong t) (length t)) (Err (record { line = first_wrong t + 1; what = what_of (row_at t (first_wrong t)) })) (Ok tt)

-- the granule, and how many numbers the partitions and the tasks have
abbrev pub numbers_of : List ℕ → Numbers
numbers_of t = record { granule = granule_of t; partitions = length (records_of part_in t); tasks = length (records_of task_in t) }

-- these, where the lent tables have room for so many; "a count outside its limits" where they have not
unfoldable pub sized_of : List ℕ → ℕ → ℕ → Result Numbers Refusal
sized_of t parts tasks =
    pick (ltb parts (length (records_of part_in t))) (Err Limits)
    (pick (ltb tasks (length (records_of task_in t))) (Err Limits)
    (Ok (numbers_of t)))

abbrev pub read_by : Result (Unit {0}) Expected → Result Numbers Refusal → Result Numbers Unread
read_by (Ok u) (Ok n) = Ok n
read_by (Ok u) (Err r) = Err (unread.Refused r)
read_by (Err e) sized = Err (unread.Expected e)

-- the answer: a text too long to be read, a wrong line, or the numbers
unfoldable pub read_text_of : List ℕ → ℕ → ℕ → Result Numbers Unread
read_text_of t parts tasks = pick (ltb longest_text (length t)) (Err (unread.Refused Limits)) (read_by (seen_of t) (sized_of t parts tasks))

-- what a lent table then holds: its kind's records in front, where all of them fit
abbrev pub table_left : Result Numbers Unread → List ℕ → List ℕ → List ℕ
table_left (Ok n) nums out = sets out 0 nums
table_left (Err u) nums out = out

-- the answer r of the call, and p and q what the lent tables then hold
abbrev pub ReadsText : List ℕ → List ℕ → List ℕ → List ℕ → List ℕ → Result Numbers Unread → Type 0
ReadsText t parts tasks p q r =
    (r ≡ read_text_of t (length parts) (length tasks)) × (p ≡ table_left r (records_of part_in t) parts) × (q ≡ table_left r (records_of task_in t) tasks)
