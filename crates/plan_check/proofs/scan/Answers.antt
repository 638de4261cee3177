use mathlib.Core.Path.{refl, ◌∙◌}
use Rattle.rules.proofs.First.{first-zero, first_more}
use Rattle.plan_check.proofs.Orders.{short_no, whole, stopped, served}
use borrow.Author.Rules.{rules}
use Rattle.plan_check.proofs.scan.Goals as goal

pub scan-init : goal.scan-init
scan-init c = (refl, first-zero _)

pub loop-s-init : goal.loop-s-init
loop-s-init c = let e = c.stretch_from-stretch.ensures in (c.scan.invariant.0, e.0, e.1, first-zero _)

pub loop-s-preserved : goal.loop-s-preserved
loop-s-preserved c = let l = c.loop-s in
    let e = c.next_stretch-stretch.ensures in
    (l.invariant.0, e.0 ∙ l.invariant.1, e.1, first_more _ _ l.invariant.3 (short_no _ _ _ _ _ _ _ _ _ (l.invariant.1 ∙ c.from-m.ensures ∙ c.cycle.ensures) c.wanted-q.ensures l.invariant.2.holds c.if-stretch-q.false))

pub scan-preserved : goal.scan-preserved
scan-preserved c = let l = c.loop-s in (l.invariant.0, first_more _ _ c.scan.invariant.1 (whole _ _ _ _ _ _ (search rules) (search rules) l.invariant.3))

pub returns-after-scan : goal.returns-after-scan
returns-after-scan c = c.scan.invariant.0 ∙ served _ _ _ _ _ (search rules) (search rules) c.scan.invariant.1

pub returns-then-stretch-q : goal.returns-then-stretch-q
returns-then-stretch-q c = let l = c.loop-s in
    stopped _ _ _ _ _ _ _ _ _ (search rules) c.scan.invariant.1 (search rules) l.invariant.3 (l.invariant.1 ∙ c.from-m.ensures ∙ c.cycle.ensures) c.wanted-q.ensures l.invariant.2.holds c.if-stretch-q.true
