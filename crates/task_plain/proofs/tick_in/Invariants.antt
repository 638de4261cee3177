use mathlib.Core.Path.{◌≡◌}
use Rattle.rules.specs.Walk.{first}
use Rattle.task_plain.specs.Inner.{tick_fits}
use Rattle.task_plain.proofs.tick_in.Given as goal

abbrev pub invariant-loop-t : goal.invariant-loop-t
invariant-loop-t l = first (tick_fits l.lists.curve.now l.lists.asks.now l.c) l.t ≡ l.t
