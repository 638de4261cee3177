use Rattle.rules.proofs.Named.{named_self, named_then}
use Rattle.plan_curve.proofs.Lowered.{lowered_none, lowered_turn, lowered_done}
use borrow.Author.Rules.{rules}
use Rattle.plan_curve.proofs.draw_frame.Goals as goal
use mathlib.Core.Path.{refl}

pub loop-s-init : goal.loop-s-init
loop-s-init c = named_self _ _ _ _ (lowered_none _ _ _ _ _ _ _ refl c.begin.ensures)

pub loop-s-preserved : goal.loop-s-preserved
loop-s-preserved c = lowered_turn _ _ _ _ _ _ _ _ c.loop-s.invariant c.lower_at.ensures

pub returns : goal.returns
returns c = lowered_done _ _ _ _ _ _ _ (search rules) (search rules) (named_then _ _ _ _ _ _ c.begin.ensures c.loop-s.invariant)
