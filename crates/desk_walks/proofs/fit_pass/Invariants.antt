use mathlib.Core.Path.{◌≡◌}
use lib.ListN.{drop}
use Rattle.desk_records.specs.Folds.{fold_back}
use Rattle.desk_writing.specs.Writing.{fit_step, fit_out}
use Rattle.desk_walks.proofs.Along.{back_at}
use Rattle.desk_walks.proofs.fit_pass.Given as goal

abbrev pub invariant-loop-i : goal.invariant-loop-i
invariant-loop-i l = (l.st ≡ fold_back fit_step l.fn.s (drop l.i l.initial.jobs)) × (l.jobs ≡ back_at fit_step fit_out l.fn.s l.initial.jobs l.i)
