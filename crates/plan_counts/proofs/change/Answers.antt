use mathlib.Core.Path.{◌≡◌, sym, ◌∙◌}
use native.Mathlib.Omega.{arith}
use Rattle.std.proofs.Common.{Ok}
use Rattle.counts.specs.Counts.{change_of}
use Rattle.counts.proofs.Orders.{sized}
use Rattle.counts.proofs.Changing.{recounts, changeable, row-long}
use Rattle.plan_counts.proofs.change.Goals as goal

pub give-requires : goal.give-requires
unfolding change_of
give-requires c =
    let a = changeable _ c.args.parts.now _ _ _ (sym (rw (c.unless_good-within.ensures, c.unless_good-named.ensures, c.partitions.ensures) at c.judge_call.ensures) ∙ c.in_ok-judge_call.was) in
    let z = sized _ _ a.plans in
    (a.inside, z.0, omega (arith, a.new_owner, z.1), row-long _ _ _ _ a.list_is a.new_owner, row-long _ _ _ _ a.list_is a.old_owner)

pub returns : goal.returns
unfolding change_of
returns c =
    let e : change_of c.args.plan.now c.args.parts.now c.args.list.now c.args.tick c.args.owner ≡ Ok tt =
    sym (rw (c.unless_good-within.ensures, c.unless_good-named.ensures, c.partitions.ensures) at c.judge_call.ensures) ∙ c.in_ok-judge_call.was in
    let a = changeable _ c.args.parts.now _ _ _ e in (
      sym e,
      c.give.ensures.0,
      recounts _ _ _ a.inside _ _ _ _ a.list_is a.old_owner a.new_owner (rw c.give.ensures.0 at c.give.ensures.1.1) (rw c.give.ensures.0 at c.give.ensures.1.2),
    )
