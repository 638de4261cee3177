use Rattle.rules.proofs.Named.{named_as}
use Rattle.plan_curve.proofs.Rounds.{rounds_least}
use Rattle.plan_curve.proofs.draw.Goals as goal

pub returns : goal.returns
returns c = let e = c.frame_for-m.ensures in named_as _ _ _ _ _ (λ t l. rounds_least _ _ _ _ t e.1 e.0) c.draw_frames.ensures
