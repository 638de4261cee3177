use Prim.Native.Nat.{◌*◌}
use mathlib.Core.Path.{◌≡◌}
use lib.ListN.{length}
use Rattle.rules.specs.Inner.{AsNamed}
use Rattle.counts.specs.Counts.{row_width, count_at}
use Rattle.counts_rows.proofs.fill_rows.Given as goal

abbrev pub invariant-loop-p : goal.invariant-loop-p
invariant-loop-p l = (length l.list ≡ length l.initial.list) × AsNamed (count_at l.plan) (l.p * row_width l.plan) l.initial.list l.list
