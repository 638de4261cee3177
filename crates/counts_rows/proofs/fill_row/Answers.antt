use mathlib.Core.Path.{refl}
use lib.ListN.{length-set}
use Rattle.plan_service.proofs.Turns.{held_none}
use Rattle.counts.proofs.Passes.{row-none, row-turn, row_last}
use borrow.Author.Rules.{rules}
use Rattle.counts_rows.proofs.fill_row.Goals as goal

pub loop-k-init : goal.loop-k-init
loop-k-init c = (search rules, refl, held_none _ _ _ _, row-none c.args.plan.now _ _)

pub loop-k-preserved : goal.loop-k-preserved
loop-k-preserved c =
    let l = c.loop-k in
    (search rules, simp length-set l.invariant.1, c.count_on-h.ensures.1, row-turn _ _ _ (search rules) _ _ _ _ (search rules) (search rules) l.invariant.3 l.invariant.2 (rw c.row_at-row.ensures.0))

pub returns : goal.returns
returns c =
    let l = c.loop-k in
    row_last _ _ _ (search rules) _ _ _ _ (search rules) (search rules) (search rules) l.invariant.3 l.invariant.2 (rw c.row_at-row.ensures.0)
