use Rattle.std.proofs.Common.{rules}
use Rattle.rules.specs.Table.{partitions, good_tick}
use Rattle.rules.specs.declared.Refusal.TheVariants.{Tick}
use Rattle.tables.proofs.Chain.{lowest-told}
use Rattle.tables.proofs.judge_ticks.Goals as goal

pub returns : goal.returns
returns c =
    lowest-told Tick (good_tick (partitions c.args.parts.now) c.args.plan.now) _ _ c.lowest.ensures c.map_err.ensures.cases (λ k b p. search rules) (λ place r p. search rules)
