-- Words that only inner contracts use: no statement and no entry's contract cites them. Assumes nothing.
use Rattle.std.specs.Prelude.{ℕ, Bool, ◌&&◌, List, leb}
use Rattle.task_demand.specs.Inner.{fits_at}

-- "every tick t from 1": t is one, and holds by the lists
unfoldable pub tick_fits : List ℕ → List ℕ → ℕ → ℕ → Bool
tick_fits curve asks c t = leb 1 t && fits_at curve asks c t
