use Rattle.task_verdict.proofs.Orders.{place_none, place_past, place_plan}
use borrow.Author.Rules.{rules}
use Rattle.task_verdict.proofs.at_place.Goals as goal

pub returns-then-place-lt1 : goal.returns-then-place-lt1
returns-then-place-lt1 c = place_none _ _ _ _ _ _ c.if-place-lt1.true

pub returns-then-tasks-place : goal.returns-then-tasks-place
returns-then-tasks-place c = place_past _ _ _ _ _ _ (search rules) (search rules)

pub returns : goal.returns
returns c = place_plan _ _ _ _ _ _ (search rules) _ (search rules) c.check_plan.ensures
