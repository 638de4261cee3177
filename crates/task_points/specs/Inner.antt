-- Words that only inner contracts use: no statement and no entry's contract cites them. Assumes nothing.
use Rattle.std.specs.Prelude.{ℕ, ◌+◌, Bool, ◌&&◌, ◌||◌, List, eqb, leb, ltb, get_or}
use Rattle.task_demand.specs.Inner.{fits_at}

-- t is the deadline d, or more is asked of t + 1 ticks than of t
unfoldable pub point_at : List ℕ → ℕ → ℕ → Bool
point_at asks d t = eqb t d || ltb (get_or asks t 0) (get_or asks (t + 1) 0)

-- t is from 1 on, such a tick, and holds by the lists
unfoldable pub point_fits : List ℕ → List ℕ → ℕ → ℕ → ℕ → Bool
point_fits curve asks c d t = leb 1 t && point_at asks d t && fits_at curve asks c t
