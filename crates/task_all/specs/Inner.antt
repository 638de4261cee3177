-- Words that only inner contracts use: no statement and no entry's contract cites them. Assumes nothing.
use Rattle.std.specs.Prelude.{ℕ, ◌+◌, ◌≤◌, ◌<◌, ◌≡◌, List, eqb, leb, length, get_or, set, Option, None, Some}
use Rattle.rules.specs.Limits.{most_tasks}
use Rattle.rules.specs.Walk.{pick, only, first}
use Rattle.rules.specs.Table.{partition, budget, deadline, tasks}
use Rattle.rules.specs.declared.Rule.{Rule}
use Rattle.theory.specs.Task.{task_point, task_tick}
use Rattle.task_demand.specs.Inner.{InOrder, in_time}
use Rattle.task_points.specs.Inner.{point_fits}
use Rattle.task_plain.specs.Inner.{tick_fits}
use Rattle.task_all.specs.declared.Times.{Times}

-- the deadline of task j, where it is of partition p
unfoldable pub deadline_in : List ℕ → ℕ → ℕ → ℕ
deadline_in ts p j = only (eqb (partition ts j) p) (deadline ts j)

-- the point of task j by the lists
abbrev pub point_by : List ℕ → List ℕ → List ℕ → ℕ → ℕ
point_by curve asks ts j = first (point_fits curve asks (budget ts j) (deadline ts j)) (deadline ts j + 1)

-- and its tick
abbrev pub tick_by : List ℕ → List ℕ → List ℕ → ℕ → ℕ
tick_by curve asks ts j = first (tick_fits curve asks (budget ts j)) (deadline ts j + 1)

-- where both are found
abbrev pub both : Option ℕ → Option ℕ → Option Times
both (Some t) (Some u) = Some (record { point = t; tick = u })
both (Some t) None = None
both None r = None

-- where task j passes, by the lists
unfoldable pub times_by : List ℕ → List ℕ → List ℕ → ℕ → Option Times
times_by curve asks ts j = both (in_time (deadline ts j) (point_by curve asks ts j)) (in_time (deadline ts j) (tick_by curve asks ts j))

-- of a task with deadline d: its point t and its tick u, unless its point is past d
unfoldable pub times_at : ℕ → ℕ → ℕ → Option Times
times_at d t u = pick (leb t d) (Some (record { point = t; tick = u })) None

-- where task j passes
unfoldable pub times_of : Rule → List ℕ → List ℕ → ℕ → Option Times
times_of rule plan ts j = times_at (deadline ts j) (task_point rule plan ts j) (task_tick rule plan ts j)

-- what a pass leaves: the first h answers are as o names them, the others as they were
pub record FoundAs (o : ℕ → Option Times) (h : ℕ) (before after : List (Option Times)) : Type 0 where
  pub as_long : length after ≡ length before
  pub done : (j : ℕ) → j < h → get_or after j None ≡ o j
  pub rest : (j : ℕ) → h ≤ j → get_or after j None ≡ get_or before j None

-- of a task for which nothing is found no tick up to its deadline holds either
abbrev pub NoTick : Rule → List ℕ → List ℕ → List (Option Times) → Type 0
NoTick rule plan ts found = (j : ℕ) → j < tasks ts → get_or found j None ≡ None → deadline ts j < task_tick rule plan ts j

-- v put at place j, where task j is of partition p
unfoldable pub marked : List ℕ → ℕ → ℕ → Option Times → List (Option Times) → List (Option Times)
marked ts p j v list = pick (eqb (partition ts j) p) (set list j v) list

-- answer j of a list, or what `found` says of task j where it is of partition p
unfoldable pub judged_in : List ℕ → ℕ → (ℕ → Option Times) → List (Option Times) → ℕ → Option Times
judged_in ts p found list j = pick (eqb (partition ts j) p) (found j) (get_or list j None)

-- what is found for p's tasks is put at their places
abbrev pub JudgedIn : Rule → List ℕ → List ℕ → ℕ → List (Option Times) → List (Option Times) → Type 0
JudgedIn rule plan ts p before after = FoundAs (judged_in ts p (times_of rule plan ts) before) (tasks ts) before after

-- few tasks, each with its times in order
pub record JudgeableAll (ts : List ℕ) : Type 0 where
  pub few : tasks ts ≤ most_tasks
  pub in_order : (j : ℕ) → j < tasks ts → InOrder ts j
