use Prim.Native.Nat.{min}
use mathlib.Core.Path.{◌≡◌, refl}
use native.Mathlib.Omega.{arith}
use lib.ListN.{get_or}
use Rattle.theory.specs.Plan.{service}
use Rattle.theory.proofs.Plan.{held-le}
use Rattle.theory.proofs.Words.{from_only, from_small}
use Rattle.plan_service.proofs.Turns.{held-turn}
use Rattle.plan_curve.proofs.Lowered.{row-none, row-turn, place_in_row}
use borrow.Author.Rules.{rules}
use Rattle.plan_curve.proofs.lower_row.Goals as goal

pub loop-t-init : goal.loop-t-init
loop-t-init c = (rw c.requires.5 (held-le (service c.args.rule c.args.plan.now) _ _ _), c.requires.5, row-none _ _ _ _ _ _)

pub loop-t-preserved : goal.loop-t-preserved
loop-t-preserved c =
    let l = c.loop-t in
    let serves = from_only c.from-all.ensures c.serves_at.ensures in
    let least : c.min.result ≡ min (get_or l.list l.t 0) l.all = search rules in (
      omega (arith, from_small _ c.from-all.ensures, l.invariant.0),
      held-turn _ _ _ _ _ _ _ _ (place_in_row _ _ _ _ _ c.requires.0 (search rules) (search rules)) l.invariant.1 serves,
      row-turn _ _ _ _ _ _ _ _ _ _ _ l.invariant.2 (search rules) l.invariant.1 least refl,
    )
