use mathlib.Core.Path.{◌≡◌}
use Prim.Native.Nat.{◌≤◌}
use Rattle.rules.specs.Walk.{first}
use Rattle.rules.specs.declared.Rule.TheVariants.{Own}
use Rattle.theory.specs.Plan.{held}
use Rattle.counts.specs.Inner.{differs_at}
use Rattle.counts_rows.proofs.row_differs.Given as goal

abbrev pub invariant-loop-k : goal.invariant-loop-k
invariant-loop-k l = (l.h ≤ l.k) × (l.h ≡ held Own l.plan l.p l.k 0) × (first (differs_at l.plan l.list l.p) l.k ≡ l.k)
