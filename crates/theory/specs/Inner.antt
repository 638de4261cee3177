-- Words that only inner contracts use: no statement and no entry's contract cites them. Assumes nothing.
use Rattle.std.specs.Prelude.{List, ℕ, ◌*◌, ◌/◌}
use Rattle.rules.specs.Table.{cycle, partition}
use Rattle.rules.specs.declared.Rule.{Rule}
use Rattle.theory.specs.Plan.{least}

-- "q·H/m": what place k wants in a frame of h ticks
abbrev pub wanted_in : (ℕ → ℕ) → List ℕ → ℕ → ℕ → ℕ
wanted_in q ps h k = q k * (h / cycle ps k)

-- every tick idle
abbrev pub idle : ℕ → ℕ
idle t = 0

-- least(t) of the partition of task i
abbrev pub least_for : Rule → List ℕ → List ℕ → ℕ → ℕ → ℕ
least_for rule plan ts i = least rule plan (partition ts i)
