use Prim.Native.Nat.{◌≤◌}
use mathlib.Core.Path.{◌≡◌}
use Rattle.theory.specs.Plan.{held}
use Rattle.plan_curve.specs.Inner.{LoweredOn}
use Rattle.plan_curve.proofs.lower_row.Given as goal

abbrev pub invariant-loop-t : goal.invariant-loop-t
invariant-loop-t l = (l.all ≤ l.t) × (l.all ≡ held l.rule l.plan l.p l.t l.s) × LoweredOn l.rule l.plan l.p l.s l.b l.t l.initial.list l.list
