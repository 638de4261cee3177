-- Tasks as competitors for their partition's ticks. Tasks count from 0. Assumes nothing.
use Rattle.std.specs.Prelude.{Bool, List, ℕ, eqb}
use Rattle.rules.specs.Table.{partition, budget, deadline, period}
use Rattle.rules.specs.declared.Rule.{Rule}
use Rattle.theory.specs.Plan.{least}
use Rattle.theory.specs.Load.{Load, Passes, first_point, first_tick}

-- "Within a partition an earlier task has the higher priority": of the tasks before i, those of its partition
unfoldable pub rival : List ℕ → ℕ → ℕ → Bool
rival ts i j = eqb (partition ts j) (partition ts i)

-- C, D and T of each task; a job is released when it arrives
unfoldable pub task_load : List ℕ → Load
task_load ts = record { cost = budget ts; deadline = deadline ts; period = period ts; jitter = λ j. 0; rival = rival ts }

-- "Task i passes exactly when demand(t) ≤ least(t) for some t from 1 to D."
abbrev pub TaskPasses : Rule → List ℕ → List ℕ → ℕ → Type 0
TaskPasses rule plan ts i = Passes (task_load ts) (least rule plan (partition ts i)) i

-- "A pass reports the smallest scheduling point that holds": past D where none does
abbrev pub task_point : Rule → List ℕ → List ℕ → ℕ → ℕ
task_point rule plan ts i = first_point (task_load ts) (least rule plan (partition ts i)) i

-- document 02, ask 4: "It reports the smallest tick that holds": past D where none does
abbrev pub task_tick : Rule → List ℕ → List ℕ → ℕ → ℕ
task_tick rule plan ts i = first_tick (task_load ts) (least rule plan (partition ts i)) i
