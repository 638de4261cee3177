use Rattle.std.proofs.Common.{◌≤◌, ◌<◌, ℕ, false}
use Rattle.task_demand.proofs.earliest.Given as goal

abbrev pub invariant-loop-t : goal.invariant-loop-t
invariant-loop-t g l = (u : ℕ) → 1 ≤ u → u < l.t → goal.G-post g l.passes u false
