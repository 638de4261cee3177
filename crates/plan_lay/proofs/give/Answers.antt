use Rattle.plan_lay.proofs.Passes.{giving_none, giving_turn}
use borrow.Author.Rules.{rules}
use Rattle.plan_lay.proofs.give.Goals as goal

pub loop-t-init : goal.loop-t-init
loop-t-init c = giving_none _ _ _ _ (search rules)

pub loop-t-preserved : goal.loop-t-preserved
loop-t-preserved c = let l = c.loop-t in
    giving_turn _ _ _ _ _ _ _ _ (search rules) (search rules) l.invariant _ _ _ _ c.after-at.ensures c.give_tick-met.ensures.0 c.give_tick-met.ensures.1 c.seen_from-seen.ensures
