use Prim.Native.Nat.{◌<◌}
use mathlib.Core.Path.{◌≡◌}
use Rattle.rules.specs.Walk.{count}
use Rattle.task_page.specs.Inner.{point_in}
use Rattle.task_page.proofs.points_in.Given as goal

abbrev pub invariant-loop-t : goal.invariant-loop-t
invariant-loop-t l = (l.n < l.t) × (l.n ≡ count (point_in l.lists.asks.now l.end) l.t)
