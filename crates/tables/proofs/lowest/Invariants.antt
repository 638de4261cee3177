use Rattle.std.proofs.Common.{◌<◌, ℕ, true}
use Rattle.tables.proofs.lowest.Given as goal

abbrev pub invariant-loop-k : goal.invariant-loop-k
invariant-loop-k g l = (j : ℕ) → j < l.k → goal.G-post g l.good j true
