-- Words that only inner contracts use: no statement and no entry's contract cites them. Assumes nothing.
use Rattle.std.specs.Prelude.{ℕ, ◌+◌, ◌≤◌, List, get_or, Option, None, Some}
use Rattle.rules.specs.Limits.{most_partitions, most_tasks}
use Rattle.rules.specs.Walk.{Every}
use Rattle.rules.specs.Table.{partitions, partition, tasks, good_task}
use Rattle.task_all.specs.declared.Times.{Times}
use Rattle.file_lines.specs.Lines.{pass_line, fail_line}

-- few enough records for a page, and no bad task
pub record GoodRecords (ps ts : List ℕ) : Type 0 where
  pub few_parts : partitions ps ≤ most_partitions
  pub few_tasks : tasks ts ≤ most_tasks
  pub good : Every (good_task (partitions ps) ts) (tasks ts)

-- a task's line, by its place and its partition, and by where it passes
abbrev pub line_with : ℕ → ℕ → Option Times → List ℕ
line_with place p (Some t) = pass_line place p t.point t.tick
line_with place p None = fail_line place p

-- the line of task j, by what was found for it
unfoldable pub line_by : List ℕ → List (Option Times) → ℕ → List ℕ
line_by ts found j = line_with (j + 1) (partition ts j) (get_or found j None)
