use Rattle.std.proofs.Common.{ℕ, true, ◌≡◌, ◌≤◌, ◌<◌, ◌*◌}
use Rattle.rules.specs.Walk.{sum}
use Rattle.file_tables.specs.Runs.{run_length, good_run}
use Rattle.file_tables.proofs.judge_runs.Given as goal

abbrev pub invariant-loop-k : goal.invariant-loop-k
invariant-loop-k l = ((j : ℕ) → j < l.k → good_run l.parts l.frame l.table j ≡ true) × (l.total ≡ sum (run_length l.table) l.k) × (l.total ≤ 65536 * l.k)
