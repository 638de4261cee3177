use Rattle.task_page.proofs.Tight.{count_1, count_turn}
use borrow.Author.Rules.{rules}
use Rattle.task_page.proofs.points_in.Goals as goal

pub loop-t-init : goal.loop-t-init
loop-t-init c = (search rules, count_1 _ _)

pub loop-t-preserved : goal.loop-t-preserved
loop-t-preserved c = let l = c.loop-t in (search rules, count_turn _ _ _ _ _ c.point_at.result (search rules) l.invariant.1 c.point_at.ensures (search rules))
