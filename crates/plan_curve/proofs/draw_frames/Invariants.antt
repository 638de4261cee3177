use Rattle.rules.specs.Inner.{AsNamed}
use Rattle.theory.specs.Plan.{least}
use Rattle.plan_curve.proofs.draw_frames.Given as goal

abbrev pub invariant-loop-t : goal.invariant-loop-t
invariant-loop-t l = AsNamed (least l.fn.rule l.plan l.p) l.t l.initial.list l.list
