use mathlib.Core.Path.{◌≡◌}
use lib.ListN.{length}
use Rattle.rules.specs.Inner.{AsNamed}
use Rattle.task_demand.specs.Inner.{all_asked}
use Rattle.task_demand.proofs.ask_rivals.Given as goal

abbrev pub invariant-loop-j : goal.invariant-loop-j
invariant-loop-j l = (length l.asks ≡ length l.initial.asks) × AsNamed (all_asked l.tasks l.p l.j) l.n l.initial.asks l.asks
