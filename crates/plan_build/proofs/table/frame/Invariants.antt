use Prim.Native.Nat.{◌^◌, ◌<◌}
use mathlib.Core.Path.{◌≡◌}
use Rattle.rules.specs.Walk.{largest}
use Rattle.rules.specs.Table.{cycle}
use Rattle.plan_build.proofs.table.frame.Given as goal

abbrev pub invariant-loop-k : goal.invariant-loop-k
invariant-loop-k l = (l.h < 2 ^ 16) × (l.h ≡ largest (cycle l.parts) l.k)
