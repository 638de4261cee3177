use mathlib.Core.Path.{refl, ◌∙◌}
use native.Mathlib.Nat.{le_refl}
use native.Mathlib.Omega.{arith}
use Rattle.output.proofs.Put.{lines_more}
use Rattle.task_page.proofs.Rows.{in_lists, rows_few, rows_none, rows_all}
use borrow.Author.Rules.{rules}
use Rattle.task_page.proofs.put_rows.Goals as goal

pub loop-t-init : goal.loop-t-init
loop-t-init c = (refl, rows_none _ _ _ _ _ _)

pub put_point-requires : goal.put_point-requires
put_point-requires c =
    let w = c.requires.ready in
    let few = rows_few _ _ _ _ _ c.loop-t.invariant.1 in
    let short = (in_lists _ _ _ _ _ _ w _ _ (c.from-d.ensures ∙ c.deadline.ensures) (le_refl _)).0 in
    record { ready = w; in_reach = (search rules, search rules, omega (arith, few, short, c.requires.low)) }

pub loop-t-preserved : goal.loop-t-preserved
loop-t-preserved c = (c.put_point.ensures.same_reference ∙ c.loop-t.invariant.0, lines_more _ _ c.loop-t.invariant.1 c.put_point.ensures.put)

pub returns-clause-put : goal.returns-clause-put
returns-clause-put c = rows_all _ _ _ _ _ _ (search rules) (c.from-d.ensures ∙ c.deadline.ensures) c.loop-t.invariant.1
