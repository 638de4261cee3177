use Rattle.rules.specs.Inner.{AsNamed}
use Rattle.plan_curve.proofs.Lowered.{lowered}
use Rattle.plan_curve.proofs.draw_frame.Given as goal

abbrev pub invariant-loop-s : goal.invariant-loop-s
invariant-loop-s l = AsNamed (lowered l.rule l.plan l.p l.s) l.n l.initial.list l.list
