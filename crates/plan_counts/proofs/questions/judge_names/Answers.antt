use Rattle.std.proofs.Common.{rules}
use Rattle.rules.specs.declared.Refusal.TheVariants.{Asked}
use Rattle.tables.proofs.Chain.{lowest-told}
use Rattle.counts.specs.Counts.{names_one}
use Rattle.plan_counts.proofs.questions.judge_names.Goals as goal

pub returns : goal.returns
unfolding names_one
returns c =
    rw (← c.questions.ensures) (lowest-told Asked (names_one c.args.parts c.args.table.now) _ _ c.lowest.ensures c.map_err.ensures.cases (λ k b p. search rules) (λ place r p. search rules))
