use mathlib.Core.Path.{refl}
use borrow.Author.Rules.{rules}
use Rattle.task_page.proofs.Fails.{points_is, tightest_is, shortage_is, too_short, fails_so, rows_left}
use Rattle.task_page.proofs.put_fail.Goals as goal

pub returns-then-rows-n : goal.returns-then-rows-n
returns-then-rows-n c = let w = c.requires in
    let n = points_is _ _ _ _ _ _ w _ _ c.budget-c.ensures c.deadline-d.ensures _ c.points_in-n.ensures.1 in
    (too_short _ _ _ _ _ _ n c.if-rows-n.true, refl)

pub returns : goal.returns
returns c = let w = c.requires in
    let b = c.budget-c.ensures in
    let d = c.deadline-d.ensures in
    let n = points_is _ _ _ _ _ _ w _ _ b d _ c.points_in-n.ensures.1 in
    let t = c.tightest_in-tightest.ensures in
    let room = c.if-rows-n.false in
    let left = rows_left _ _ _ _ _ n room (rw (c.new.ensures.empty.0, c.new.ensures.empty.1) at c.put_rows.ensures.put) in (
      fails_so _ _ _ _ _ _ n _ _ room (tightest_is _ _ _ _ _ _ w _ _ b d _ t.1) (shortage_is _ _ _ _ _ _ w _ _ b d _ t.1 _ t.0 c.short_in-shortage.ensures),
      search rules,
    )
