use mathlib.Core.Path.{refl}
use native.Mathlib.Omega.{arith}
use Rattle.rules.proofs.Named.{named_self, named_end}
use Rattle.plan_curve.proofs.Frames.{frame_small, frame-turn, named-over}
use borrow.Author.Rules.{rules}
use Rattle.plan_curve.proofs.draw_frames.Goals as goal

pub loop-t-init : goal.loop-t-init
loop-t-init c = named_self _ _ _ _ c.draw_frame.ensures

pub overflow_add-list : goal.overflow_add-list
overflow_add-list c =
    let q = c.within_frame-k.ensures.2 (omega arith) in
    omega (arith, frame_small _ _ _ q.0 _ _ _ _ _ c.loop-t.invariant (omega (arith, q.1)) refl refl)

pub loop-t-preserved : goal.loop-t-preserved
loop-t-preserved c =
    let q = c.within_frame-k.ensures.2 (omega arith) in
    frame-turn _ _ _ q.0 _ _ _ _ _ _ _ c.loop-t.invariant (omega (arith, q.1)) (search rules) refl refl refl refl

pub returns : goal.returns
returns c = named_end _ _ _ _ _ (search rules) (search rules) (named-over _ _ _ _ _ _ (search rules) c.draw_frame.ensures c.loop-t.invariant)
