use Rattle.plan_curve.proofs.Rounds.{AgainTo}
use Rattle.plan_curve.proofs.repeats.Given as goal

abbrev pub invariant-loop-k : goal.invariant-loop-k
invariant-loop-k l = AgainTo l.rule l.plan l.p l.m l.k
