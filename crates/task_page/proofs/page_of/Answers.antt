use Prim.Native.Nat.{◌+◌}
use Rattle.rules.specs.Limits.{longest}
use Rattle.task_demand.proofs.Asking.{zeros-all}
use borrow.Author.Rules.{rules}
use mathlib.Core.Path.{refl}
use Rattle.task_points.proofs.Points.{point_is}
use Rattle.task_page.proofs.Fails.{paged_pass, paged_fail}
use Rattle.task_page.proofs.page_of.Goals as goal

pub draw_task-requires : goal.draw_task-requires
draw_task-requires c = (search rules, zeros-all (longest + 1), search rules, search rules)

pub returns-in-Some : goal.returns-in-Some
returns-in-Some c = let t = point_is _ _ _ _ _ _ c.requires.1 c.draw_task.ensures _ _ c.budget-c.ensures c.deadline-d.ensures in
    (paged_pass _ _ _ _ _ _ c.point_in.ensures c.deadline-d.ensures t _ c.in-Some.is, refl)

pub returns-in-None : goal.returns-in-None
returns-in-None c = let t = point_is _ _ _ _ _ _ c.requires.1 c.draw_task.ensures _ _ c.budget-c.ensures c.deadline-d.ensures in
    (paged_fail _ _ _ _ _ _ c.point_in.ensures c.deadline-d.ensures t _ c.in-None.is c.put_fail.ensures.0, c.put_fail.ensures.1)
