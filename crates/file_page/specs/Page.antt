-- The page of a plan that serves, by a rule of which owned ticks do. Places count from 0 here; those printed count from 1. Assumes nothing.
use Rattle.std.specs.Prelude.{ℕ, ◌+◌, List, ◌++◌, leb}
use Rattle.rules.specs.Walk.{pick, gathered}
use Rattle.rules.specs.Table.{cycle, partitions, partition, deadline, tasks}
use Rattle.rules.specs.Terms.{usual, wanted}
use Rattle.rules.specs.declared.Rule.{Rule}
use Rattle.theory.specs.Plan.{least}
use Rattle.theory.specs.Task.{task_point, task_tick}
use Rattle.file_lines.specs.Lines.{frame_line, partition_line, pass_line, fail_line}

-- partition i wants q in m least l, "where `least` is least(m)"; "the listing program keeps g = 1"
unfoldable pub part_line : Rule → List ℕ → List ℕ → ℕ → List ℕ
part_line rule plan ps k = partition_line (k + 1) (wanted usual ps k) (cycle ps k) (least rule plan (k + 1) (cycle ps k))

-- "A pass reports the smallest scheduling point that holds", and by ask 4 "the smallest tick that holds"; "A failing task ends in `fail`."
unfoldable pub task_line : Rule → List ℕ → List ℕ → ℕ → List ℕ
task_line rule plan ts j =
    pick (leb (task_point rule plan ts j) (deadline ts j))
    (pass_line (j + 1) (partition ts j) (task_point rule plan ts j) (task_tick rule plan ts j))
    (fail_line (j + 1) (partition ts j))

-- of a plan that serves: the frame, every partition, every task
unfoldable pub page_of : Rule → ℕ → List ℕ → List ℕ → List ℕ → List ℕ
page_of rule frame plan ps ts = frame_line frame ++ gathered (part_line rule plan ps) (partitions ps) ++ gathered (task_line rule plan ts) (tasks ts)
