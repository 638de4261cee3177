use mathlib.Core.Path.{sym, ◌∙◌}
use native.Mathlib.Omega.{arith}
use lib.ListN.{length}
use Rattle.rules.proofs.Named.{named-list}
use Rattle.tables.proofs.Chain.{found_ok}
use Rattle.counts.specs.Counts.{fill_of}
use Rattle.counts.proofs.Orders.{planned, sized, small-list}
use Rattle.plan_counts.proofs.fill.Goals as goal

pub overflow_mul-needed : goal.overflow_mul-needed
overflow_mul-needed c =
    let z = sized c.args.plan.now c.args.parts.now (planned _ _ (sym c.judge_plan.ensures ∙ c.in_ok-judge_plan.was)) in
    omega (arith, small-list (length c.args.plan.now) c.partitions-n.result z.0 (rw c.partitions-n.ensures z.1))

pub fill_rows-requires : goal.fill_rows-requires
fill_rows-requires c = ((sized _ _ (planned _ _ (sym c.judge_plan.ensures ∙ c.in_ok-judge_plan.was))).0, c.if-list-needed.false)

pub returns : goal.returns
unfolding fill_of
returns c = (grind (arith, found_ok), rw (← c.partitions-n.ensures) (named-list _ _ _ _ c.if-list-needed.false c.fill_rows.ensures))
