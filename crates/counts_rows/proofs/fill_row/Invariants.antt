use mathlib.Core.Path.{◌≡◌}
use Prim.Native.Nat.{◌+◌, ◌≤◌}
use lib.ListN.{length}
use Rattle.rules.specs.Inner.{AsNamed}
use Rattle.rules.specs.declared.Rule.TheVariants.{Own}
use Rattle.theory.specs.Plan.{held}
use Rattle.counts.specs.Counts.{row_of}
use Rattle.counts.proofs.Passes.{recounted}
use Rattle.counts_rows.proofs.fill_row.Given as goal

abbrev pub invariant-loop-k : goal.invariant-loop-k
invariant-loop-k l = (l.h ≤ l.k) × (length l.list ≡ length l.initial.list) × (l.h ≡ held Own l.plan l.p l.k 0)
    × AsNamed (recounted l.plan l.p l.initial.list) (row_of l.plan l.p + l.k) l.initial.list l.list
