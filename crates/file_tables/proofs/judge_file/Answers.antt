use mathlib.Core.Path.{sym, ◌∙◌}
use native.Mathlib.Omega.{arith}
use Rattle.file_tables.proofs.Chain.{counted-runs}
use Rattle.file_tables.proofs.judge_file.Goals as goal

pub judge_runs-requires : goal.judge_runs-requires
judge_runs-requires c = let a = counted-runs _ (sym c.runs_counted.ensures ∙ c.if-not-runs_counted.false) in omega (arith, a.0, a.2)
