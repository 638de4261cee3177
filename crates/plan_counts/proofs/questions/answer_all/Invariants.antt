use mathlib.Core.Path.{◌≡◌}
use lib.ListN.{length}
use Rattle.rules.specs.Inner.{AsNamed}
use Rattle.counts.specs.Counts.{answer_at}
use Rattle.plan_counts.proofs.questions.answer_all.Given as goal

abbrev pub invariant-loop-k : goal.invariant-loop-k
invariant-loop-k l = (length l.answers ≡ length l.initial.answers) × AsNamed (answer_at l.plan l.table) l.k l.initial.answers l.answers
