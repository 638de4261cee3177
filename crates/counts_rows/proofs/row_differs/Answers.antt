use mathlib.Core.Path.{sym}
use Rattle.rules.proofs.First.{first-zero, some_at}
use Rattle.plan_service.proofs.Turns.{held_none}
use Rattle.counts.proofs.Agree.{differs_here}
use borrow.Author.Rules.{rules}
use Rattle.counts_rows.proofs.row_differs.Goals as goal

pub loop-k-init : goal.loop-k-init
loop-k-init c = (search rules, held_none _ _ _ _, first-zero _)

pub returns-then-from-h : goal.returns-then-from-h
returns-then-from-h c =
    sym (some_at _ _ _ (search rules) (differs_here _ _ _ (search rules) _ _ _ _ (search rules) c.row_at-row.ensures.0 c.loop-k.invariant.1 c.from.ensures c.if-from-h.true))
