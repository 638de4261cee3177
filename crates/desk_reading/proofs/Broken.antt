-- A broken rule stays broken. Assumes nothing.
use mathlib.Core.Path.{◌≡◌, refl}
use mathlib.Core.Bool.{Bool}
use mathlib.Core.List.{List, [], ◌∷◌}
use Rattle.std.specs.Prelude.{None}
use Rattle.desk.specs.declared.Job.{Job}
use Rattle.desk_records.specs.Folds.{fold}
use Rattle.desk_reading.specs.Reading.{scan_on}

pub none_stays : (o : Bool) (l : List Job) → fold (scan_on o) None l ≡ None
unfolding fold
none_stays o [] = refl
none_stays o (j ∷ l) = none_stays o l
