-- The places among the jobs js left at a request: where each starts, its room, and how later jobs move. Document 01, "The desk". Assumes nothing.
use Rattle.std.specs.Prelude.{ℕ, zero, suc, ◌+◌, ◌-◌, min, max, List, [], ◌∷◌, leb, get_or}
use Rattle.rules.specs.Walk.{pick}
use Rattle.desk.specs.declared.Job.{Job}
use Rattle.desk.specs.Table.{job, start, budget, deadline, flex, ends, none}

-- "l be the number of jobs left with a ≤ d"
abbrev pub early : ℕ → List Job → ℕ
early d [] = 0
early d (j ∷ js) = pick (leb (start j) d) (suc (early d js)) (early d js)

-- "s is t for place 0, else the end of the job before"
abbrev pub start_at : ℕ → List Job → ℕ → ℕ
start_at t js zero = t
start_at t js (suc i) = ends (get_or js i none)

-- "Room is R = a − s + min(d − a, x) of job i, where d is the request's."
abbrev pub room : ℕ → ℕ → Job → ℕ
room s d j = start j - s + min (d - start j) (flex j)

-- "Later jobs move only as far as the job before forces them, each x falling by its own move"; e is the end of the job before
abbrev pub moved : ℕ → Job → Job
moved e j = job (max e (start j)) (budget j) (deadline j) (flex j - (max e (start j) - start j))

abbrev pub shift : ℕ → List Job → List Job
shift e [] = []
shift e (j ∷ js) = moved e j ∷ shift (ends (moved e j)) js
