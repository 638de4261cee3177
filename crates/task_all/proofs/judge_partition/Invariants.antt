use Prim.Native.Nat.{◌+◌}
use mathlib.Core.Path.{◌≡◌}
use lib.ListN.{length}
use Rattle.rules.specs.Inner.{AsNamed}
use Rattle.rules.specs.declared.Rule.{Rule}
use Rattle.theory.specs.Plan.{least}
use Rattle.task_demand.specs.Inner.{all_asked}
use Rattle.task_all.specs.Inner.{times_of, FoundAs, judged_in}
use Rattle.task_all.proofs.judge_partition.Given as goal

abbrev pub invariant-loop-j : goal.invariant-loop-j
invariant-loop-j l = (length l.asks ≡ length l.initial.asks)
    × (length l.found ≡ length l.initial.found)
    × AsNamed (all_asked l.table l.p l.j) (l.d + 1) l.initial.asks l.asks
    × ((rule : Rule) → AsNamed (least rule l.plan l.p) (l.d + 1) l.curve l.curve
    → FoundAs (judged_in l.table l.p (times_of rule l.plan l.table) l.initial.found) l.j l.initial.found l.found)
