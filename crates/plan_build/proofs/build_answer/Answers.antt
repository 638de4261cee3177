use mathlib.Core.Path.{sym, ◌∙◌}
use Rattle.plan_build.proofs.Orders.{good-few}
use Rattle.plan_build.proofs.build_answer.Goals as goal

pub lay_answer-requires : goal.lay_answer-requires
lay_answer-requires c = good-few _ _ 0 (sym c.judge_partitions.ensures ∙ c.in_ok-judge_partitions.was)
