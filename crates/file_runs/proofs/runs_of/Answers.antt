use mathlib.Core.Path.{refl, ◌∙◌}
use Rattle.output.proofs.Put.{put_none}
use Rattle.file_runs.proofs.Ticks.{runs_none, runs-empty, runs-some, runs-turn, runs_end}
use borrow.Author.Rules.{rules}
use Rattle.file_runs.proofs.runs_of.Goals as goal

pub returns-then-n-gt-LONGEST : goal.returns-then-n-gt-LONGEST
returns-then-n-gt-LONGEST c = rw (runs_none c.args.plan.now c.if-n-gt-LONGEST.true) (put_none _ _)

pub returns-then-n-lt1 : goal.returns-then-n-lt1
returns-then-n-lt1 c = rw (runs-empty c.args.plan.now c.if-n-lt1.true) (put_none _ _)

pub loop-k-preserved : goal.loop-k-preserved
loop-k-preserved c = (c.put_ended.ensures.same_reference ∙ c.loop-k.invariant.0, search rules, rw c.next_long-long.ensures.0 (runs-turn c.args.plan.now _ _ _ _ (search rules) c.loop-k.invariant.3 refl c.loop-k.invariant.2 c.put_ended.ensures.put), c.next_long-long.ensures.1, search rules, search rules)

pub returns : goal.returns
returns c =
    let w = rw (← runs-some c.args.plan.now (search rules)) at (runs_end c.args.plan.now _ _ c.loop-k.k (search rules) c.loop-k.invariant.3 c.loop-k.invariant.2 c.put_run.ensures.put) in
    search rules
