-- Words that only inner contracts use: no statement and no entry's contract cites them. Assumes nothing.
use Rattle.std.specs.Prelude.{ℕ, ◌+◌, ◌-◌, ◌≤◌, Bool, ◌&&◌, List, leb, length, get_or}
use Rattle.rules.specs.Limits.{longest}
use Rattle.rules.specs.declared.Rule.{Rule}
use Rattle.task_demand.specs.Inner.{Judgeable, Drawn}
use Rattle.task_points.specs.Inner.{point_at}

-- t is a scheduling point by the lists, of a task with deadline d
unfoldable pub point_in : List ℕ → ℕ → ℕ → Bool
point_in asks d t = leb 1 t && point_at asks d t

-- what is short at t by the lists, of a task with budget c
unfoldable pub short_in : List ℕ → List ℕ → ℕ → ℕ → ℕ
short_in curve asks c t = c + get_or asks t 0 - get_or curve t 0

-- a task that can be judged, its lists drawn, on a frame within the limits
pub record Ready (rule : Rule) (plan ts : List ℕ) (i : ℕ) (curve asks : List ℕ) : Type 0 where
  pub few_ticks : length plan ≤ longest
  pub judgeable : Judgeable ts i
  pub drawn : Drawn rule plan ts i curve asks
