use mathlib.Core.Path.{refl}
use native.Mathlib.Omega.{arith}
use Rattle.theory.specs.Plan.{service}
use Rattle.theory.proofs.Plan.{held-le}
use Rattle.theory.proofs.Words.{from_only, from_small}
use Rattle.plan_service.proofs.Turns.{held_next, place-next}
use Rattle.plan_service.proofs.next_stretch.Goals as goal

pub overflow_add-result : goal.overflow_add-result
overflow_add-result c =
    let w = c.requires.2 in
    omega (arith, w.holds, from_small _ c.from-more.ensures, held-le (service c.args.rule c.args.plan.now) c.args.p c.args.stretch.length c.args.s)

pub overflow_sub-result : goal.overflow_sub-result
overflow_sub-result c =
    let w = c.requires.2 in
    omega (arith, held_next _ _ _ _ _ _ _ _ _ (omega arith) w.behind w.holds (from_only c.from-more.ensures c.serves_at.ensures) (from_only c.from-less.ensures c.serves_at-2.ensures))

pub returns : goal.returns
returns c =
    let w = c.requires.2 in
    let next = held_next _ _ _ _ _ _ _ _ _ (omega arith) w.behind w.holds (from_only c.from-more.ensures c.serves_at.ensures) (from_only c.from-less.ensures c.serves_at-2.ensures) in
    (refl, record { holds = omega (arith, next); behind = place-next _ _ _ _ _ w.behind c.after-next.ensures.1 })
