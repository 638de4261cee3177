use mathlib.Core.Path.{◌≡◌}
use lib.ListN.{length}
use Rattle.rules.specs.Table.{tasks}
use Rattle.task_all.specs.Inner.{times_of, FoundAs}
use Rattle.task_all.proofs.Marks.{judged_upto}
use Rattle.task_all.proofs.judge_all.Given as goal

abbrev pub invariant-loop-p : goal.invariant-loop-p
invariant-loop-p l = (length l.found ≡ length l.initial.found) × FoundAs (judged_upto l.table l.p (times_of l.rule l.plan l.table) l.initial.found) (tasks l.table) l.initial.found l.found
