use Prim.Native.Nat.{◌*◌}
use Rattle.rules.specs.Walk.{Every}
use Rattle.counts.specs.Counts.{row_width, agrees_at}
use Rattle.counts_rows.proofs.differs.Given as goal

abbrev pub invariant-loop-p : goal.invariant-loop-p
invariant-loop-p l = Every (agrees_at l.plan l.list) (l.p * row_width l.plan)
