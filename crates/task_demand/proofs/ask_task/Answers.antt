use mathlib.Core.Path.{sym, ◌∙◌}
use Rattle.task_demand.proofs.Asking.{task_counts, task_left}
use Rattle.task_demand.proofs.ask_task.Goals as goal

pub returns-then-partition-p : goal.returns-then-partition-p
returns-then-partition-p c = task_counts _ _ _ _ _ _ _ _ (sym c.partition.ensures ∙ c.if-partition-p.true) c.budget-c.ensures c.period-period.ensures c.add_task.ensures

pub returns-else-partition-p : goal.returns-else-partition-p
returns-else-partition-p c = task_left _ _ _ _ _ (rw c.partition.ensures at c.if-partition-p.false)
