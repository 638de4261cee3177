use Rattle.rules.specs.Inner.{AsNamed}
use Rattle.plan_curve.specs.Inner.{most}
use Rattle.plan_curve.proofs.begin.Given as goal

abbrev pub invariant-loop-t : goal.invariant-loop-t
invariant-loop-t l = AsNamed (most l.f l.p) l.t l.initial.list l.list
