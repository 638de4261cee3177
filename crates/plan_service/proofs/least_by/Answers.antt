use Prim.Native.Nat.{min}
use mathlib.Core.Path.{◌≡◌, sym, ap₂, ◌∙◌}
use lib.ListN.{length}
use Rattle.rules.proofs.Least.{smallest-zero, smallest_more}
use Rattle.theory.specs.Plan.{least}
use borrow.Author.Rules.{rules}
use Rattle.plan_service.proofs.least_by.Goals as goal

pub loop-s-init : goal.loop-s-init
loop-s-init c = let e = c.stretch_from-stretch.ensures in
    (e.0, e.1, (rw e.0 at e.1.holds) ∙ sym (smallest-zero _))

pub loop-s-preserved : goal.loop-s-preserved
loop-s-preserved c = let l = c.loop-s in
    let e = c.next_stretch-stretch.ensures in
    let m : c.min-best.result ≡ min l.best l.stretch.held = search rules in
    (e.0 ∙ l.invariant.0, e.1, m ∙ ap₂ min l.invariant.2 (rw l.invariant.0 at l.invariant.1.holds) ∙ sym (smallest_more _ _))

pub returns : goal.returns
unfolding least
returns c = let e : c.loop-s.s ≡ length c.args.plan.now = search rules in rw (e, c.from-owner.ensures) at c.loop-s.invariant.2
