use Prim.Native.Nat.{◌+◌}
use mathlib.Core.Path.{◌≡◌}
use Rattle.std.specs.Prelude.{Ok}
use Rattle.rules.specs.Walk.{first}
use Rattle.rules.specs.Terms.{wanted}
use Rattle.plan_service.specs.Inner.{Counted}
use Rattle.plan_check.specs.Check.{short_at}
use Rattle.plan_check.proofs.Orders.{short_in}
use Rattle.plan_check.proofs.scan.Given as goal

abbrev pub invariant-loop-s : goal.invariant-loop-s
invariant-loop-s l = (l.found ≡ Ok tt)
    × (l.stretch.length ≡ l.m)
    × Counted l.rule l.plan (l.k + 1) l.s l.stretch
    × (first (short_at l.rule (wanted l.terms l.parts) l.plan l.parts l.k) l.s ≡ l.s)

abbrev pub invariant-scan : goal.invariant-scan
invariant-scan l = (l.found ≡ Ok tt) × (first (short_in l.rule (wanted l.terms l.parts) l.plan l.parts) l.k ≡ l.k)
