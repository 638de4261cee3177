use mathlib.Core.Path.{sym, ◌∙◌}
use borrow.Author.Rules.{rules}
use Rattle.plan_service.proofs.Turns.{serves_owner, serves_behind, serves_none}
use Rattle.plan_service.proofs.service_at.Goals as goal

pub returns-then-from-owner : goal.returns-then-from-owner
returns-then-from-owner c = rw c.in-Switching.is (serves_behind _ _ _ _ (search rules) c.before-behind.ensures.1 c.from-owner.ensures (sym c.from.ensures ∙ c.if-from-owner.true))

pub returns-in-Own : goal.returns-in-Own
returns-in-Own c = rw c.in-Own.is (serves_owner _ _ _ (search rules) c.from-owner.ensures)

pub returns-else-from-owner : goal.returns-else-from-owner
returns-else-from-owner c = rw c.in-Switching.is (serves_none _ _ _ _ (search rules) c.before-behind.ensures.1 c.from-owner.ensures (λ e. c.if-from-owner.false (c.from.ensures ∙ e)))
