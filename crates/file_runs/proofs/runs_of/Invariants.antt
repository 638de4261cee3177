use mathlib.Core.List.{◌++◌}
use mathlib.Core.Path.{◌≡◌}
use Prim.Native.Nat.{◌≤◌, ◌*◌}
use lib.ListN.{drop, replicate}
use Rattle.file_runs.specs.Ticks.{runs_of}
use Rattle.output.proofs.Put.{Rest}
use Rattle.file_runs.proofs.runs_of.Given as goal

abbrev pub invariant-loop-k : goal.invariant-loop-k
invariant-loop-k l =
    (l.runs.lent.ghost_name ≡ l.initial.runs.lent.ghost_name)
    × (1 ≤ l.k)
    × Rest l.fn.out (runs_of l.plan) l.runs.at l.runs.lent.now (runs_of (replicate l.long l.owner ++ drop l.k l.plan))
    × (1 ≤ l.long)
    × (l.long ≤ l.k)
    × (l.runs.at ≤ 2 * l.k)
