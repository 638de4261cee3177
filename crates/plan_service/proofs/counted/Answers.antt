use native.Mathlib.Omega.{arith}
use Rattle.plan_service.proofs.Turns.{held_whole}
use Rattle.plan_service.proofs.counted.Goals as goal

pub returns : goal.returns
returns c = held_whole _ _ _ _ _ _ _ (omega arith) c.joined-h.ensures.1 c.joined-2.ensures.1
