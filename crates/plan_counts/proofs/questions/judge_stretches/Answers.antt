use Rattle.std.proofs.Common.{rules}
use Rattle.rules.specs.declared.Refusal.TheVariants.{Beyond}
use Rattle.tables.proofs.Chain.{lowest-told}
use Rattle.counts.specs.Counts.{within_frame}
use Rattle.plan_counts.proofs.questions.judge_stretches.Goals as goal

pub returns : goal.returns
unfolding within_frame
returns c =
    rw (← c.questions.ensures) (lowest-told Beyond (within_frame c.args.f c.args.table.now) _ _ c.lowest.ensures c.map_err.ensures.cases (λ k b p. search rules) (λ place r p. search rules))
