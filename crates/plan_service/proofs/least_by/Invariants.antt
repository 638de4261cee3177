use mathlib.Core.Path.{◌≡◌}
use Rattle.rules.specs.Walk.{smallest}
use Rattle.theory.specs.Plan.{held}
use Rattle.plan_service.specs.Inner.{Counted}
use Rattle.plan_service.proofs.least_by.Given as goal

abbrev pub invariant-loop-s : goal.invariant-loop-s
invariant-loop-s l = (l.stretch.length ≡ l.t) × Counted l.rule l.plan l.owner l.s l.stretch × (l.best ≡ smallest (held l.rule l.plan l.owner l.t) l.s)
