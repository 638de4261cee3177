-- The harmonic rule, in closed form: the partition at place k wants q k. Assumes nothing.
use Rattle.std.specs.Prelude.{◌≡◌, Bool, true, ◌&&◌, ◌||◌, List, ℕ, ◌+◌, ◌-◌, ◌*◌, ◌/◌, ◌%◌, ◌<◌, eqb, ltb}
use Rattle.rules.specs.Walk.{pick, first, count, sum, largest, walk, listed}
use Rattle.rules.specs.Table.{cycle, partitions}
use Rattle.theory.specs.Plan.{owned}

-- "one divides the other": the cycles of places j and k
unfoldable pub pairs : List ℕ → ℕ → ℕ → Bool
pairs ps j k = eqb (cycle ps k % cycle ps j) 0 || eqb (cycle ps j % cycle ps k) 0

-- "Of any two cycles, one divides the other."
abbrev pub Harmonic : List ℕ → Type 0
Harmonic ps = (j k : ℕ) → j < partitions ps → k < partitions ps → pairs ps j k ≡ true

-- "The frame H is the largest cycle."
unfoldable pub frame : List ℕ → ℕ
frame ps = largest (cycle ps) (partitions ps)

-- "the sum of q·H/m", for a frame of h ticks
unfoldable pub all_wanted : (ℕ → ℕ) → List ℕ → ℕ → ℕ
all_wanted q ps h = sum (λ k. q k * (h / cycle ps k)) (partitions ps)

-- "Take partitions by rising cycle, equal cycles by place": whether place j is taken before place k
unfoldable pub sooner : List ℕ → ℕ → ℕ → Bool
sooner ps k j = ltb (cycle ps j) (cycle ps k) || (eqb (cycle ps j) (cycle ps k) && ltb j k)

-- how many places are taken before place k
unfoldable pub rank : List ℕ → ℕ → ℕ
rank ps k = count (sooner ps k) (partitions ps)

-- the place that is taken after r others
abbrev pub taken : List ℕ → ℕ → ℕ
taken ps r = first (λ k. eqb (rank ps k) r) (partitions ps)

-- "In each cycle, counted from tick 0, give the partition its q earliest idle ticks": those with fewer than q idle ticks before them in their cycle of m
unfoldable pub give : ℕ → ℕ → ℕ → (ℕ → ℕ) → ℕ → ℕ
give p q m o t = pick (eqb (o t) 0 && ltb (owned o 0 (t % m) (t - t % m)) q) p (o t)

-- the turn of the partition that is taken after r others
unfoldable pub turn : (ℕ → ℕ) → List ℕ → ℕ → (ℕ → ℕ) → ℕ → ℕ
turn q ps r = let k = taken ps r in give (k + 1) (q k) (cycle ps k)

-- the owner of every tick after r partitions had their turn; "0 for idle": before the first turn every tick is
unfoldable pub planned : (ℕ → ℕ) → List ℕ → ℕ → ℕ → ℕ
planned q ps r = walk (turn q ps) (λ t. 0) r

-- the plan that the rule writes: every partition had its turn, "The frame H"
abbrev pub harmonic_plan : (ℕ → ℕ) → List ℕ → List ℕ
harmonic_plan q ps = listed (planned q ps (partitions ps)) (frame ps)
