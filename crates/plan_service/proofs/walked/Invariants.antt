use Prim.Native.Nat.{◌≤◌}
use mathlib.Core.Path.{◌≡◌}
use Rattle.theory.specs.Plan.{held}
use Rattle.plan_service.proofs.walked.Given as goal

abbrev pub invariant-loop-k : goal.invariant-loop-k
invariant-loop-k l = (l.h ≤ l.k) × (l.h ≡ held l.rule l.plan l.p l.k l.a)
