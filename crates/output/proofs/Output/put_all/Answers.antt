use mathlib.Core.Path.{◌∙◌}
use Rattle.output.proofs.Put.{put_turn}
use Rattle.output.proofs.Output.put_all.Goals as goal

pub loop-x-preserved : goal.loop-x-preserved
loop-x-preserved g c =
    (c.put.ensures.same_reference ∙ c.loop-x.invariant.0, put_turn _ _ _ c.loop-x-test.true c.x-item.is c.loop-x.invariant.1 c.put.ensures.put)
