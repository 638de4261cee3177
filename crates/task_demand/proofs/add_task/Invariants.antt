use Prim.Native.Nat.{ℕ, ◌+◌, ◌-◌, ◌*◌, ◌≤◌, ◌<◌}
use mathlib.Core.Path.{◌≡◌}
use lib.ListN.{length}
use Rattle.rules.specs.Inner.{AsNamed}
use Rattle.task_demand.specs.Inner.{with_task}
use Rattle.task_demand.proofs.add_task.Given as goal

abbrev pub invariant-loop-t : goal.invariant-loop-t
invariant-loop-t l = (l.t ≤ l.n)
    × (length l.asks ≡ length l.initial.asks)
    × AsNamed (with_task l.c l.period l.initial.asks) l.t l.initial.asks l.asks
    × ((k : ℕ) × (l.t < l.n → l.t ≡ k * l.period + 1) × (l.all ≡ l.c * k))

abbrev pub decreases-loop-t : goal.decreases-loop-t
decreases-loop-t l = l.n - l.t
