use mathlib.Core.Path.{◌≡◌}
use Rattle.rules.specs.Walk.{largest}
use Rattle.task_all.specs.Inner.{deadline_in}
use Rattle.task_all.proofs.longest_deadline.Given as goal

abbrev pub invariant-loop-j : goal.invariant-loop-j
invariant-loop-j l = l.d ≡ largest (deadline_in l.table l.p) l.j
