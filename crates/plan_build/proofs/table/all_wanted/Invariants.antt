use Prim.Native.Nat.{◌*◌, ◌^◌, ◌≤◌}
use mathlib.Core.Path.{◌≡◌}
use Rattle.rules.specs.Walk.{sum}
use Rattle.rules.specs.Terms.{wanted}
use Rattle.theory.specs.Inner.{wanted_in}
use Rattle.plan_build.proofs.table.all_wanted.Given as goal

abbrev pub invariant-loop-k : goal.invariant-loop-k
invariant-loop-k l = (l.all ≤ 2 ^ 53 * l.k) × (l.all ≡ sum (wanted_in (wanted l.terms l.parts) l.parts l.h) l.k)
