use Prim.Native.Nat.{◌+◌}
use Rattle.rules.specs.Limits.{longest}
use Rattle.task_demand.proofs.Asking.{zeros-all}
use borrow.Author.Rules.{rules}
use mathlib.Core.Path.{◌∙◌}
use Rattle.task_demand.proofs.Walking.{in_time_of}
use Rattle.task_points.proofs.Points.{point_is}
use Rattle.task_points.proofs.first_point.Goals as goal

pub draw_task-requires : goal.draw_task-requires
draw_task-requires c = (search rules, zeros-all (longest + 1), search rules, search rules)

pub returns : goal.returns
returns c = c.point_in.ensures ∙ in_time_of _ _ _ _ c.deadline-d.ensures (point_is _ _ _ _ _ _ c.requires c.draw_task.ensures _ _ c.budget-c.ensures c.deadline-d.ensures)
