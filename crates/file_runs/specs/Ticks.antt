-- A plan as runs and as ticks: "The reader and the writer know the plan as runs, every other call as ticks." Assumes nothing.
use Rattle.std.specs.Prelude.{ℕ, ◌+◌, ◌*◌, List, [], ◌∷◌, ◌++◌, length, replicate, leb, eqb}
use Rattle.rules.specs.Walk.{pick}
use Rattle.rules.specs.Limits.{longest, run_width}

-- "Run: owner, length": the owner of each tick
unfoldable pub ticks_of : List ℕ → List ℕ
ticks_of [] = []
ticks_of (owner ∷ []) = []
ticks_of (owner ∷ long ∷ rs) = replicate long owner ++ ticks_of rs

-- runs with one tick more in front: "neighbours differ", so it joins a run of the same owner
unfoldable pub joined : ℕ → List ℕ → List ℕ
joined t [] = t ∷ 1 ∷ []
joined t (owner ∷ []) = t ∷ 1 ∷ owner ∷ []
joined t (owner ∷ long ∷ rs) = pick (eqb t owner) (owner ∷ (long + 1) ∷ rs) (t ∷ 1 ∷ owner ∷ long ∷ rs)

-- the runs of a plan's ticks
unfoldable pub runs_of : List ℕ → List ℕ
runs_of [] = []
runs_of (t ∷ plan) = joined t (runs_of plan)

-- "runs 1 to 4,096": of a longer table no ticks are put
unfoldable pub ticks_put : List ℕ → List ℕ
ticks_put rs = pick (leb (length rs) (run_width * longest)) (ticks_of rs) []

-- "frame 1 to 4,096 ticks": of a longer plan no runs are put
unfoldable pub runs_put : List ℕ → List ℕ
runs_put plan = pick (leb (length plan) longest) (runs_of plan) []
