use Prim.Native.Nat.{◌+◌, ◌≤◌}
use Rattle.rules.proofs.FirstLeast.{FirstFrom}
use Rattle.task_page.specs.Inner.{point_in, short_in}
use Rattle.task_page.proofs.tightest_in.Given as goal

abbrev pub invariant-loop-t : goal.invariant-loop-t
invariant-loop-t l = (1 ≤ l.t) × (l.best ≤ l.end) × FirstFrom (point_in l.lists.asks.now l.end) (short_in l.lists.curve.now l.lists.asks.now l.c) l.t (l.end + 1) l.best
