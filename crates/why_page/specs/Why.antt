-- The page of a task of a plan file, as text: a function of the file's bytes and the task's place, which counts from 1. Assumes nothing.
use Rattle.std.specs.Prelude.{ℕ, ◌-◌, ◌*◌, List, ◌++◌, eqb, unwrap_or, Result, Ok, Err}
use Rattle.rules.specs.Limits.{longest, row_width}
use Rattle.rules.specs.Walk.{pick, gathered}
use Rattle.rules.specs.Table.{field_at, partition}
use Rattle.rules.specs.Terms.{filed, rule_of}
use Rattle.rules.specs.declared.Rule.{Rule}
use Rattle.theory.specs.Plan.{least, worst_start}
use Rattle.theory.specs.Load.{demand}
use Rattle.theory.specs.Task.{task_load}
use Rattle.task_page.specs.declared.Paged.{Paged}
use Rattle.task_page.specs.declared.Paged.TheVariants as paged
use Rattle.task_page.specs.Page.{rows_of, points_of, tightest_of, page_of}
use Rattle.file_read.specs.declared.Contents.{Contents}
use Rattle.rules.specs.declared.Refusal.{Refusal}
use Rattle.file_read.specs.declared.Body.TheVariants.{Partitions, Tasks, Runs}
use Rattle.file_read.specs.Reader.{read_of, table_of}
use Rattle.file_runs.specs.Ticks.{ticks_of}
use Rattle.output.specs.Refused.{refused_line}
use Rattle.share_words.specs.Words.{numeral}
use Rattle.why_lines.specs.Lines.{passes_line, fails_line, names_line, row_line, spare_line, short_line}

-- the line of row k, where the tightest point is u
unfoldable pub line_of : ℕ → List ℕ → ℕ → List ℕ
line_of u rows k = row_line u (field_at row_width rows k 0) (field_at row_width rows k 1) (field_at row_width rows k 2) (field_at row_width rows k 3)

-- what is said of task i, counted from 0, where it passes at the point t
unfoldable pub spare_of : Rule → List ℕ → List ℕ → ℕ → ℕ → List ℕ
spare_of rule plan ts i t = spare_line t (demand (task_load ts) i t) (least rule plan (partition ts i) t)

-- and where it fails, the tightest point being t
unfoldable pub short_of : Rule → List ℕ → List ℕ → ℕ → ℕ → List ℕ
short_of rule plan ts i t = short_line t (demand (task_load ts) i t) (least rule plan (partition ts i) t) (worst_start rule plan (partition ts i) t)

-- "For a passing task: the point, and how much is to spare there."
unfoldable pub pass_text : Rule → List ℕ → List ℕ → ℕ → ℕ → List ℕ
pass_text rule plan ts place t = passes_line place (partition ts (place - 1)) ++ spare_of rule plan ts (place - 1) t

-- a fail: the columns' names, a line for each scheduling point in rising order, and what sinks it
unfoldable pub fail_text : Rule → List ℕ → List ℕ → ℕ → List ℕ
fail_text rule plan ts place =
    fails_line place (partition ts (place - 1)) ++ names_line
    ++ gathered (line_of (tightest_of rule plan ts (place - 1)) (rows_of rule plan ts (place - 1))) (points_of ts (place - 1))
    ++ short_of rule plan ts (place - 1) (tightest_of rule plan ts (place - 1))

-- by what the page answers
abbrev pub paged_text : Rule → List ℕ → List ℕ → ℕ → Result Paged Refusal → List ℕ
paged_text rule plan ts place (Ok (paged.Pass t)) = pass_text rule plan ts place t
paged_text rule plan ts place (Ok (paged.Fail n u h)) = fail_text rule plan ts place
paged_text rule plan ts place (Err r) = refused_line r

-- how many numbers a page may have: a row for each tick up to the longest deadline
abbrev pub most_numbers : ℕ
most_numbers = row_width * longest

-- of the tables of an accepted file, by its edition
unfoldable pub tables_text : ℕ → List ℕ → List ℕ → List ℕ → ℕ → List ℕ
tables_text e plan ps ts place = paged_text (rule_of e) plan ts place (page_of (filed e) plan ps ts place most_numbers)

abbrev pub read_text : Result Contents Refusal → List ℕ → ℕ → List ℕ
read_text (Ok c) b place = tables_text c.edition (ticks_of (table_of b Runs)) (table_of b Partitions) (table_of b Tasks) place
read_text (Err r) b place = refused_line r

-- the text for a file's bytes and a task's place
unfoldable pub why_of : List ℕ → ℕ → List ℕ
why_of b place = read_text (read_of b) b place

-- the place that a program is asked for, of so many words with its own name, w the one behind that: the number that one word says, else none
unfoldable pub place_asked : ℕ → List ℕ → ℕ
place_asked words w = pick (eqb words 2) (unwrap_or (numeral w) 0) 0
