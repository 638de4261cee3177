use mathlib.Core.Path.{sym, ◌∙◌}
use Rattle.counts.proofs.Orders.{planned, sized}
use Rattle.plan_counts.proofs.judging.judge_call.Goals as goal

pub judge_list-requires : goal.judge_list-requires
judge_list-requires c = sized _ _ (planned _ _ (sym c.judge_plan.ensures ∙ c.in_ok-judge_plan.was))
