use mathlib.Core.Path.{sym, ◌∙◌}
use Rattle.task_all.proofs.Marks.{mark_put, mark-left}
use Rattle.task_all.proofs.judge_task.Goals as goal

pub returns-then-partition-p : goal.returns-then-partition-p
returns-then-partition-p c = mark_put _ _ _ _ _ _ (sym c.partition.ensures ∙ c.if-partition-p.true) c.times_in.ensures

pub returns-else-partition-p : goal.returns-else-partition-p
returns-else-partition-p c = mark-left _ _ _ _ _ (rw c.partition.ensures at c.if-partition-p.false)
