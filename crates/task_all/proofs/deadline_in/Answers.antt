use mathlib.Core.Path.{sym, ◌∙◌}
use Rattle.task_all.proofs.Marks.{deadline_of, deadline-none}
use Rattle.task_all.proofs.deadline_in.Goals as goal

pub returns-then-partition-p : goal.returns-then-partition-p
returns-then-partition-p c = deadline_of _ _ _ _ (sym c.partition.ensures ∙ c.if-partition-p.true) (c.from.ensures ∙ c.deadline.ensures)

pub returns : goal.returns
returns c = deadline-none _ _ _ (rw c.partition.ensures at c.if-partition-p.false)
