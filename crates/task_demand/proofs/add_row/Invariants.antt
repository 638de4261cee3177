use mathlib.Core.Path.{◌≡◌}
use lib.ListN.{length}
use Rattle.task_demand.specs.Inner.{Added}
use Rattle.task_demand.proofs.add_row.Given as goal

abbrev pub invariant-loop-t : goal.invariant-loop-t
invariant-loop-t l = (length l.asks ≡ length l.initial.asks) × Added l.all l.b l.t l.initial.asks l.asks
