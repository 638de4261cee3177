use mathlib.Core.Path.{◌≡◌}
use Rattle.rules.specs.Walk.{first}
use Rattle.theory.specs.Plan.{worst}
use Rattle.plan_service.specs.Inner.{Counted}
use Rattle.plan_service.proofs.worst_start.Given as goal

abbrev pub invariant-loop-s : goal.invariant-loop-s
invariant-loop-s l = (l.stretch.length ≡ l.t) × Counted l.rule l.plan l.p l.s l.stretch × (first (worst l.rule l.plan l.p l.t) l.s ≡ l.s)
