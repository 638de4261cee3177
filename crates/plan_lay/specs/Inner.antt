-- Words that only inner contracts use: no statement and no entry's contract cites them. Assumes nothing.
use Rattle.std.specs.Prelude.{ℕ, ◌≤◌, ◌<◌, ◌&&◌, List, eqb, ltb, get_or}
use Rattle.rules.specs.Walk.{pick}
use Rattle.rules.specs.Limits.{most_partitions}
use Rattle.rules.specs.Table.{partitions, cycle}

-- tick t of an output
abbrev pub tick_of : List ℕ → ℕ → ℕ
tick_of l t = get_or l t 0

-- what a tick of owner o becomes when p is given its q, where `seen` idle ticks lie before it in its cycle
abbrev pub given_tick : ℕ → ℕ → ℕ → ℕ → ℕ
given_tick p q seen o = pick (eqb o 0 && ltb seen q) p o

-- a table that the passes can lay out
pub record Layable (ps : List ℕ) : Type 0 where
  pub few : partitions ps ≤ most_partitions
  pub cycles : (k : ℕ) → k < partitions ps → 0 < cycle ps k
