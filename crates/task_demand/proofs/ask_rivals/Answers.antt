use mathlib.Core.Path.{refl, ◌∙◌}
use native.Mathlib.Omega.{arith}
use Rattle.task_demand.proofs.Asking.{asked-none, asked-small, asked_more}
use borrow.Author.Rules.{rules}
use Rattle.task_demand.proofs.ask_rivals.Goals as goal

pub loop-j-init : goal.loop-j-init
loop-j-init c = (refl, asked-none _ _ _ _ c.requires.4)

pub ask_task-requires : goal.ask_task-requires
ask_task-requires c = let l = c.loop-j in
    let pre = c.requires in
    (pre.0.in_order _ (search rules), pre.1, search rules, search rules, asked-small _ _ _ _ _ _ (search rules) (search rules) (λ j h. pre.0.in_order j (omega arith)) pre.4 l.invariant.1)

pub loop-j-preserved : goal.loop-j-preserved
loop-j-preserved c = (c.ask_task.ensures.as_long ∙ c.loop-j.invariant.0, asked_more _ _ _ _ _ _ _ c.loop-j.invariant.1 c.ask_task.ensures)
