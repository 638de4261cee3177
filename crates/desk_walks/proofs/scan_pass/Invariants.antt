use mathlib.Core.Path.{◌≡◌}
use lib.ListN.{take}
use Rattle.std.specs.Prelude.{Some}
use Rattle.desk_records.specs.Folds.{fold}
use Rattle.desk_reading.specs.Reading.{scan_on}
use Rattle.desk_walks.proofs.scan_pass.Given as goal

abbrev pub invariant-loop-j : goal.invariant-loop-j
invariant-loop-j l = fold (scan_on l.opening) l.fn.s (take l.j-index l.jobs) ≡ Some l.st
