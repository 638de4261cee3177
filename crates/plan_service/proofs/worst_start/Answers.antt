use mathlib.Core.Path.{sym, ◌∙◌}
use Rattle.rules.proofs.First.{first-zero, first_more, first_found, first_done}
use Rattle.theory.specs.Plan.{worst_start}
use Rattle.plan_service.proofs.Turns.{is_worst, not-worst}
use borrow.Author.Rules.{rules}
use Rattle.plan_service.proofs.worst_start.Goals as goal

pub loop-s-init : goal.loop-s-init
loop-s-init c = let e = c.stretch_from-stretch.ensures in (e.0, e.1, first-zero _)

pub loop-s-preserved : goal.loop-s-preserved
loop-s-preserved c = let l = c.loop-s in
    let e = c.next_stretch-stretch.ensures in
    let h = rw l.invariant.0 at l.invariant.1.holds in
    (e.0 ∙ l.invariant.0, e.1, first_more _ _ l.invariant.2 (not-worst _ _ _ _ _ _ _ h (search rules) c.if-stretch-low.false))

pub returns-then-stretch-low : goal.returns-then-stretch-low
unfolding worst_start
returns-then-stretch-low c = let l = c.loop-s in
    let h = rw l.invariant.0 at l.invariant.1.holds in
    (search rules, sym (first_found _ _ _ (search rules) l.invariant.2 (is_worst _ _ _ _ _ _ _ h (search rules) c.if-stretch-low.true)))

pub returns : goal.returns
unfolding worst_start
returns c = (search rules, sym (first_done _ _ _ (search rules) (search rules) c.loop-s.invariant.2))
