use Rattle.std.proofs.Common.{rules}
use Rattle.task_demand.specs.Inner.{TriesTo}
use Rattle.task_demand.proofs.Walking.{earliest_is}
use Rattle.task_points.specs.Inner.{point_fits}
use Rattle.task_points.proofs.Points.{no_point_0}
use Rattle.task_points.proofs.point_in.Goals as goal

pub earliest-requires : goal.earliest-requires
unfolding TriesTo
earliest-requires c = λ t one l. search rules

pub returns : goal.returns
returns c = let a = c.args in
    earliest_is (point_fits a.lists.now.curve.now a.lists.now.asks.now a.c a.d) (no_point_0 _ _ _ _) _ _ _ c.earliest.ensures (λ t b one l p. search rules)
