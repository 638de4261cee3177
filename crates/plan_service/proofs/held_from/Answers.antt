use Rattle.plan_service.proofs.Turns.{empty-idle, empty_other}
use Rattle.plan_service.proofs.held_from.Goals as goal

pub returns-then-p-eq0 : goal.returns-then-p-eq0
returns-then-p-eq0 c = empty-idle _ _ _ _ _ c.if-plan-eq0.true c.if-p-eq0.true

pub returns-else-p-eq0 : goal.returns-else-p-eq0
returns-else-p-eq0 c = empty_other _ _ _ _ _ c.if-plan-eq0.true c.if-p-eq0.false
