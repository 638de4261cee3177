use mathlib.Core.Path.{refl, ◌∙◌}
use Rattle.output.proofs.Put.{put_none, and_then}
use Rattle.file_runs.proofs.Ticks.{rep_more}
use borrow.Author.Rules.{rules}
use Rattle.file_runs.proofs.put_ticks.Goals as goal

pub loop-init : goal.loop-init
loop-init c = (refl, put_none _ _, search rules)

pub loop-preserved : goal.loop-preserved
loop-preserved c = (c.put.ensures.same_reference ∙ c.loop.invariant.0, rw (← rep_more c.loop.counter c.args.owner) (and_then c.loop.invariant.1 c.put.ensures.put), search rules)
