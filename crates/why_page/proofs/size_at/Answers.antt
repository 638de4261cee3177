use mathlib.Core.Path.{refl}
use Prim.Native.Nat.{◌+◌}
use Rattle.rules.specs.Limits.{longest}
use Rattle.task_demand.proofs.Asking.{zeros-all}
use Rattle.why_page.proofs.Lines.{sized}
use borrow.Author.Rules.{rules}
use Rattle.why_page.proofs.size_at.Goals as goal

pub draw_task-requires : goal.draw_task-requires
draw_task-requires c = (search rules, zeros-all (longest + 1), search rules, search rules)

pub returns : goal.returns
returns c =
    (sized _ _ _ _ _ _ c.args.t _ _ _ _ c.requires.1 (rw c.rule_of-rule.ensures at c.draw_task.ensures) c.budget.ensures c.from.ensures refl refl (search rules) (search rules) (search rules), refl)
