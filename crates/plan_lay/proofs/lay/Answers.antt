use Rattle.rules.proofs.Named.{named_self}
use Rattle.plan_lay.proofs.Passes.{planned-none, planned-turn}
use Rattle.plan_lay.proofs.lay.Goals as goal

pub loop-r-init : goal.loop-r-init
loop-r-init c = planned-none _ _ _ _ _ (named_self _ _ _ _ c.clear.ensures)

pub loop-r-preserved : goal.loop-r-preserved
loop-r-preserved c = planned-turn _ _ _ _ _ _ _ c.loop-r.invariant c.turn.ensures
