-- What the reader answers: contents, then the bodies, and the refusals 1 to 8. Assumes nothing.
use Rattle.std.specs.Prelude.{ℕ, ◌*◌, ◌≡◌, List, ◌&&◌, not, length, get_or, ltb, eqb, Result, Ok, Err}
use Rattle.rules.specs.Limits.{longest, part_width, task_width, run_width, head_bytes}
use Rattle.rules.specs.Walk.{pick}
use Rattle.rules.specs.Terms.{good_edition}
use Rattle.tables.specs.Tables.{counted_in, within_limits, unless}
use Rattle.rules.specs.declared.Refusal.{Refusal}
use Rattle.rules.specs.declared.Refusal.TheVariants.{Short, Edition, Limits, Offset, Length}
use Rattle.rules.specs.declared.Told.{Told}
use Rattle.rules.specs.Refusals.{told_by}
use Rattle.file_codec.specs.Bytes.{nums_of, part}
use Rattle.file_tables.specs.Runs.{file_tables_of}
use Rattle.file_codec.specs.Contents.{tasks_at, runs_at, size_of}
use Rattle.file_read.specs.declared.Contents.{Contents}
use Rattle.file_read.specs.declared.Body.{Body}
use Rattle.file_read.specs.declared.Body.TheVariants.{Partitions, Tasks, Runs}
use Rattle.file_read.specs.declared.Stretch.{Stretch}

-- where a body lies in a file with these contents
abbrev pub body_of : Contents → Body → Stretch
body_of c Partitions = record { offset = head_bytes; end = tasks_at (part_width * c.partitions) }
body_of c Tasks = record { offset = tasks_at (part_width * c.partitions); end = runs_at (part_width * c.partitions) (task_width * c.tasks) }
body_of c Runs =
    record { offset = runs_at (part_width * c.partitions) (task_width * c.tasks); end = size_of (part_width * c.partitions) (task_width * c.tasks) (run_width * c.runs) }

-- the same of what is read; nowhere in a refused file
abbrev pub body_at : Result Contents Refusal → Body → Stretch
body_at (Ok c) which = body_of c which
body_at (Err x) which = record { offset = 0; end = 0 }

-- a body as a table of numbers
unfoldable pub table_by : Result Contents Refusal → List ℕ → Body → List ℕ
table_by c b which = nums_of (part b (body_at c which).offset (body_at c which).end)

-- 3 to 5, of a file of edition e and so many bytes: a frame, then offset and count of each body. "Partitions 1 to 16, tasks 0 to 128,
-- frame 1 to 4,096 ticks, runs 1 to 4,096", by the counts; "Bodies from byte 16 in that order, no gaps."
unfoldable pub counts_of : ℕ → ℕ → ℕ → ℕ → ℕ → ℕ → ℕ → ℕ → ℕ → Result Contents Refusal
counts_of e long frame po np to nt ro nr =
    let p = part_width * np in let t = task_width * nt in let r = run_width * nr in
    pick (not (within_limits frame p t && counted_in 1 longest run_width r)) (Err Limits)
    (pick (not (eqb po head_bytes && eqb to (tasks_at p) && eqb ro (runs_at p t))) (Err Offset)
    (pick (not (eqb long (size_of p t r))) (Err Length) (Ok (record { edition = e; frame = frame; partitions = np; tasks = nt; runs = nr }))))

-- the k-th number of the contents
abbrev pub head_number : List ℕ → ℕ → ℕ
head_number b k = get_or (nums_of b) k 0

-- 1 to 5. "Contents first: edition 1, frame, then offset and count for partitions, tasks, runs"; "2 now means neither 1 nor 2"
unfoldable pub contents_of : List ℕ → Result Contents Refusal
contents_of b =
    pick (ltb (length b) head_bytes) (Err Short)
    (pick (not (good_edition (head_number b 0))) (Err Edition)
    (counts_of (head_number b 0) (length b) (head_number b 1) (head_number b 2) (head_number b 3) (head_number b 4) (head_number b 5) (head_number b 6) (head_number b 7)))

-- 6 to 8, of a file with these contents: what tells against its tables
abbrev pub judged_by : Result Contents Refusal → List ℕ → Result Contents Refusal
judged_by (Ok c) b =
    unless Err (file_tables_of c.edition c.frame (table_by (Ok c) b Partitions) (table_by (Ok c) b Tasks) (table_by (Ok c) b Runs)) (Ok c)
judged_by (Err x) b = Err x

unfoldable pub read_of : List ℕ → Result Contents Refusal
read_of b = judged_by (contents_of b) b

-- the answer r of the call
abbrev pub Reads : List ℕ → Result Contents Refusal → Type 0
Reads b r = r ≡ read_of b

-- 0 with frame and counts, and the edition behind them
abbrev pub told_contents : Contents → Told
told_contents c = record { number = 0; first = c.frame; second = c.partitions; third = c.tasks; fourth = c.runs; fifth = c.edition }

abbrev pub told_reading : Result Contents Refusal → Told
told_reading = told_by told_contents

-- "The reader hands back each body as a part of the file itself."
unfoldable pub section_of : List ℕ → Body → List ℕ
section_of b which = part b (body_at (read_of b) which).offset (body_at (read_of b) which).end

-- the part r that is handed back
abbrev pub HandsBack : List ℕ → Body → List ℕ → Type 0
HandsBack b which r = r ≡ section_of b which

abbrev pub table_of : List ℕ → Body → List ℕ
table_of b which = table_by (read_of b) b which
