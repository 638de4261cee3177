use mathlib.Core.Path.{refl, ◌∙◌}
use native.Mathlib.Omega.{arith}
use Rattle.output.proofs.Put.{put_none}
use Rattle.task_page.proofs.Rows.{in_lists, needs_is, has_is, needs_small, row_is, row-none}
use borrow.Author.Rules.{rules}
use Rattle.task_page.proofs.put_point.Goals as goal

pub worst_start-start-requires : goal.worst_start-start-requires
worst_start-start-requires c = let w = c.requires in
    (omega (arith, (in_lists _ _ _ _ _ _ w.ready _ _ refl w.in_reach.1).0), rw (c.from-p.ensures, c.partition.ensures) (has_is _ _ _ _ _ _ w.ready _ _ refl w.in_reach.1 _ refl))

pub put_row-requires : goal.put_row-requires
put_row-requires c = let w = c.requires in (
  search rules,
  omega (arith, (in_lists _ _ _ _ _ _ w.ready _ _ refl w.in_reach.1).0),
  needs_small _ _ _ _ _ _ w.ready _ _ refl w.in_reach.1 _ _ (c.from-c.ensures ∙ c.budget.ensures) refl,
  search rules,
  omega (arith, c.worst_start-start.ensures.0, w.ready.few_ticks),
)

pub returns-then-point_at-clause-put : goal.returns-then-point_at-clause-put
returns-then-point_at-clause-put c = let w = c.requires in
    let needed = needs_is _ _ _ _ _ _ w.ready _ _ refl w.in_reach.1 _ _ (c.from-c.ensures ∙ c.budget.ensures) refl in
    let had = has_is _ _ _ _ _ _ w.ready _ _ refl w.in_reach.1 _ refl in
    let row = row_is _ _ _ _ _ _ w.ready _ _ (c.from-d.ensures ∙ c.deadline.ensures) (search rules) w.in_reach.0 _ c.point_at.ensures _ _ _ c.if-point_at.true needed had
    (rw (c.from-p.ensures ∙ c.partition.ensures) at c.worst_start-start.ensures.1) in
    rw (← row) c.put_row.ensures.put

pub returns-else-point_at-clause-put : goal.returns-else-point_at-clause-put
returns-else-point_at-clause-put c = rw (← row-none _ _ _ _ _ _ c.requires.ready _ _ (c.from-d.ensures ∙ c.deadline.ensures) (search rules) c.requires.in_reach.0 _ c.point_at.ensures c.if-point_at.false) (put_none _ _)
