use mathlib.Core.Path.{refl, ◌∙◌}
use Rattle.theory.proofs.Plan.{held_around}
use Rattle.plan_service.proofs.Turns.{held_joined}
use borrow.Author.Rules.{rules}
use Rattle.plan_service.proofs.joined.Goals as goal

pub returns-then-n-left : goal.returns-then-n-left
returns-then-n-left c = (c.walked.ensures.0, c.walked.ensures.1 ∙ held_around _ _ _ _ _)

pub returns : goal.returns
returns c = (search rules, held_joined _ _ _ _ _ _ _ _ (search rules) refl (search rules) c.walked-2.ensures.1 c.walked-3.ensures.1)
