use mathlib.Core.Path.{sym}
use native.Mathlib.Nat.{mod-eq_of_lt}
use native.Mathlib.Omega.{arith}
use Rattle.theory.proofs.Words.{from_only, from_small}
use Rattle.plan_service.proofs.Turns.{held_none, held-turn}
use borrow.Author.Rules.{rules}
use Rattle.plan_service.proofs.walked.Goals as goal

pub loop-k-init : goal.loop-k-init
loop-k-init c = (search rules, held_none _ _ _ _)

pub loop-k-preserved : goal.loop-k-preserved
loop-k-preserved c =
    let e = from_only c.from-h.ensures c.serves_at.ensures in
    (omega (arith, from_small _ c.from-h.ensures, c.loop-k.invariant.0), held-turn _ _ _ _ _ _ _ _ (sym (mod-eq_of_lt (search rules))) c.loop-k.invariant.1 e)
