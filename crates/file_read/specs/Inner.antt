-- Words that only inner contracts use: no statement and no entry's contract cites them. Assumes nothing.
use Rattle.std.specs.Prelude.{ℕ, ◌*◌, ◌≤◌, min, List, Bool, ◌&&◌, eqb, length, take, Result, Ok, Err}
use Rattle.rules.specs.Limits.{longest, most_partitions, most_tasks, part_width, task_width, run_width, head_bytes}
use Rattle.tables.specs.Tables.{within_limits, unless}
use Rattle.file_tables.specs.Inner.{runs_counted}
use Rattle.file_codec.specs.Inner.{over}
use Rattle.file_tables.specs.Runs.{file_tables_of}
use Rattle.file_codec.specs.Contents.{tasks_at, runs_at}
use Rattle.rules.specs.declared.Refusal.{Refusal}
use Rattle.file_read.specs.declared.Contents.{Contents}
use Rattle.file_read.specs.declared.Body.{Body}
use Rattle.file_read.specs.Reader.{body_of}

-- contents whose counts are few
abbrev pub Few : Contents → Type 0
Few c = (c.frame ≤ longest) × (c.partitions ≤ most_partitions) × (c.tasks ≤ most_tasks) × (c.runs ≤ longest)

-- limits kept, by the counts that the contents give
abbrev pub counts_right : ℕ → ℕ → ℕ → ℕ → Bool
counts_right frame np nt nr = within_limits frame (part_width * np) (task_width * nt) && runs_counted (run_width * nr)

-- bodies without gaps, by the offsets that they give
abbrev pub offsets_right : ℕ → ℕ → ℕ → ℕ → ℕ → Bool
offsets_right po to ro np nt = eqb po head_bytes && eqb to (tasks_at (part_width * np)) && eqb ro (runs_at (part_width * np) (task_width * nt))

-- where a body starts and ends
abbrev pub start_of : Contents → Body → ℕ
start_of c which = (body_of c which).offset

abbrev pub end_of : Contents → Body → ℕ
end_of c which = (body_of c which).end

-- a body lies within the file
pub record Inside (b : List ℕ) (c : Contents) (which : Body) : Type 0 where
  pub in_order : start_of c which ≤ end_of c which
  pub in_file : end_of c which ≤ length b

-- a list with s at its start, as far as there is room
abbrev pub front : List ℕ → List ℕ → List ℕ
front s d = over s (min (length d) (length s)) d

-- 6 to 8 of tables at the start of longer ones
abbrev pub loaded_by : Contents → List ℕ → List ℕ → List ℕ → Result Contents Refusal
loaded_by c ps ts rs =
    unless Err (file_tables_of c.edition c.frame (take (part_width * c.partitions) ps) (take (task_width * c.tasks) ts) (take (run_width * c.runs) rs)) (Ok c)
