use Prim.Native.Nat.{◌%◌}
use mathlib.Core.Path.{◌≡◌}
use lib.ListN.{length}
use Rattle.plan_curve.proofs.Rounds.{again-all}
use borrow.Author.Rules.{rules}
use Rattle.plan_curve.proofs.repeats.Goals as goal

pub returns : goal.returns
returns c =
    let whole : length c.args.plan.now % c.args.m ≡ 0 = c.if-plan-m-ne0.false in
    let same : c.serves_at.result ≡ c.serves_at-2.result = search rules in
    λ e. again-all _ _ _ _ _ _ _ c.requires.0 whole c.serves_at.ensures c.serves_at-2.ensures same (search rules) c.loop-k.invariant
