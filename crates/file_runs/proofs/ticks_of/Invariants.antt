use mathlib.Core.Path.{◌≡◌}
use Prim.Native.Nat.{◌≤◌, ◌*◌}
use lib.ListN.{take}
use Rattle.output.specs.Put.{Put}
use Rattle.file_runs.specs.Ticks.{ticks_of}
use Rattle.file_runs.proofs.ticks_of.Given as goal

abbrev pub invariant-loop-k : goal.invariant-loop-k
invariant-loop-k l =
    (l.ticks.lent.ghost_name ≡ l.initial.ticks.lent.ghost_name)
    × Put l.fn.out 0 (ticks_of (take (2 * l.k) l.runs)) l.ticks.at l.ticks.lent.now
    × (l.ticks.at ≤ 65536 * l.k)
