use Prim.Native.Nat.{◌+◌}
use Rattle.rules.specs.Limits.{longest}
use Rattle.task_demand.proofs.Asking.{zeros-all}
use borrow.Author.Rules.{rules}
use mathlib.Core.Path.{◌∙◌}
use Rattle.task_demand.proofs.Walking.{in_time_of}
use Rattle.task_plain.proofs.Ticks.{tick_is}
use Rattle.task_plain.proofs.first_tick.Goals as goal

pub draw_task-requires : goal.draw_task-requires
draw_task-requires c = (search rules, zeros-all (longest + 1), search rules, search rules)

pub returns : goal.returns
returns c = c.tick_in.ensures ∙ in_time_of _ _ _ _ c.deadline-d.ensures (tick_is _ _ _ _ _ _ _ _ c.draw_task.ensures c.budget-c.ensures c.deadline-d.ensures)
