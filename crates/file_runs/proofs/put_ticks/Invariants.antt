use mathlib.Core.Path.{◌≡◌}
use Prim.Native.Nat.{◌+◌}
use lib.ListN.{replicate}
use Rattle.output.specs.Put.{Put}
use Rattle.file_runs.proofs.put_ticks.Given as goal

abbrev pub invariant-loop : goal.invariant-loop
invariant-loop l =
    (l.out.lent.ghost_name ≡ l.initial.out.lent.ghost_name)
    × Put l.initial.out.lent.now l.initial.out.at (replicate l.counter l.owner) l.out.at l.out.lent.now
    × (l.out.at ≡ l.initial.out.at + l.counter)
