use mathlib.Core.Path.{◌≡◌}
use lib.ListN.{take}
use Rattle.desk_records.specs.Folds.{fold}
use Rattle.desk_writing.specs.Writing.{shift_step, shift_out}
use Rattle.desk_walks.proofs.Along.{forth_at}
use Rattle.desk_walks.proofs.shift_pass.Given as goal

abbrev pub invariant-loop-place : goal.invariant-loop-place
invariant-loop-place l = (l.st ≡ fold shift_step l.fn.s (take l.place-index l.initial.jobs)) × (l.jobs ≡ forth_at shift_step shift_out l.fn.s l.initial.jobs l.place-index)
