use Prim.Native.Nat.{◌-◌, ◌≤◌, max}
use lib.ListN.{length}
use mathlib.Core.Path.{◌≡◌}
use Rattle.desk_walks.proofs.Along.{move_at}
use Rattle.desk_walks.proofs.drop_pass.Given as goal

abbrev pub invariant-loop-from : goal.invariant-loop-from
invariant-loop-from l = (l.from ≤ max (length l.initial.jobs) l.k) × (l.jobs ≡ move_at l.k l.initial.jobs (l.from - l.k))
