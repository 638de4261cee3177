use Rattle.plan_service.proofs.Turns.{serves_other}
use borrow.Author.Rules.{rules}
use Rattle.plan_service.proofs.serves_at.Goals as goal

pub returns-then-p-ne0 : goal.returns-then-p-ne0
returns-then-p-ne0 c = serves_other _ _ _ _ _ (search rules) c.from.ensures c.if-from-p.true c.if-p-ne0.true
