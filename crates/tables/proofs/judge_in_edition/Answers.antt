use mathlib.Core.Path.{◌≡◌, sym, ◌∙◌}
use Rattle.std.proofs.Common.{rules, Err}
use Rattle.rules.specs.Table.{partitions, tasks, good_part, good_task}
use Rattle.rules.specs.declared.Refusal.TheVariants.{Partition, Task}
use Rattle.tables.specs.Tables.{lowest}
use Rattle.tables.proofs.Chain.{tables_3, tables_21, tables_records, lowest-told, found_err, found_ok}
use Rattle.tables.proofs.judge_in_edition.Goals as goal

pub returns-then-not-within_limits : goal.returns-then-not-within_limits
returns-then-not-within_limits c = tables_3 _ _ _ _ (sym c.within_limits.ensures ∙ c.if-not-within_limits.true)

pub returns-then-not-good_granule : goal.returns-then-not-good_granule
returns-then-not-good_granule c = tables_21 _ _ _ _ (sym c.within_limits.ensures ∙ c.if-not-within_limits.false) (sym c.good_granule.ensures ∙ c.if-not-good_granule.true)

pub returns-in_err-map_err : goal.returns-in_err-map_err
returns-in_err-map_err c =
    let parts : c.map_err.result ≡ lowest Partition (good_part c.args.frame c.args.parts.now) (partitions c.args.parts.now)
    = rw (← c.partitions.ensures) (lowest-told Partition (good_part c.args.frame c.args.parts.now) _ _ c.lowest.ensures c.map_err.ensures.cases (λ k b p. search rules) (λ place r p. search rules)) in
    let e : c.from_residual.result ≡ Err c.in_err-map_err.field-0.0 = search rules in
    e ∙ found_err _ _ _ (sym parts ∙ c.in_err-map_err.was) ∙ tables_records _ _ _ _ (sym c.within_limits.ensures ∙ c.if-not-within_limits.false) (sym c.good_granule.ensures ∙ c.if-not-good_granule.false)

pub returns : goal.returns
returns c =
    let parts : c.map_err.result ≡ lowest Partition (good_part c.args.frame c.args.parts.now) (partitions c.args.parts.now)
    = rw (← c.partitions.ensures) (lowest-told Partition (good_part c.args.frame c.args.parts.now) _ _ c.lowest.ensures c.map_err.ensures.cases (λ k b p. search rules) (λ place r p. search rules)) in
    let tasks : c.map_err-2.result ≡ lowest Task (good_task (partitions c.args.parts.now) c.args.table.now) (tasks c.args.table.now)
    = rw (← c.tasks.ensures) (lowest-told Task (good_task (partitions c.args.parts.now) c.args.table.now) _ _ c.lowest-2.ensures c.map_err-2.ensures.cases (λ k b p. search rules) (λ place r p. search rules)) in
    tasks ∙ found_ok _ _ (sym parts ∙ c.in_ok-map_err.was) ∙ tables_records _ _ _ _ (sym c.within_limits.ensures ∙ c.if-not-within_limits.false) (sym c.good_granule.ensures ∙ c.if-not-good_granule.false)
