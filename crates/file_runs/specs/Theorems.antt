-- What is promised of runs and ticks beyond each entry's contract. Each statement's proof is a field of `Proved`. Assumes nothing.
use Rattle.std.specs.Prelude.{ℕ, ◌≤◌, ◌≡◌, true, List, ◌++◌, length, drop, Ok}
use Rattle.rules.specs.Limits.{longest, run_width}
use Rattle.rules.specs.Walk.{Every}
use Rattle.rules.specs.Table.{good_tick}
use Rattle.tables.specs.Tables.{counted_in}
use Rattle.file_tables.specs.Runs.{runs, good_run}
use Rattle.file_read.specs.declared.Contents.{Contents}
use Rattle.file_read.specs.declared.Body.TheVariants.{Runs}
use Rattle.file_read.specs.Reader.{read_of, table_of}
use Rattle.output.specs.Put.{Put}
use Rattle.output.specs.Theorems.{OnePut}
use Rattle.file_runs.specs.Ticks.{ticks_of, runs_of, ticks_put}

-- the ticks of the runs of a plan are the plan
abbrev pub TicksBack : Type 0
TicksBack = (plan : List ℕ) → ticks_of (runs_of plan) ≡ plan

-- the runs of the ticks of an accepted file are its runs
abbrev pub RunsBack : Type 0
RunsBack = (b : List ℕ) (c : Contents) → read_of b ≡ Ok c → runs_of (ticks_of (table_of b Runs)) ≡ table_of b Runs

-- "lengths add up to the frame": an accepted file has as many ticks, and "an owner is 0 or a partition of the table" at each
abbrev pub FileTicks : Type 0
FileTicks =
    (b : List ℕ) (c : Contents) → read_of b ≡ Ok c
    → (length (ticks_of (table_of b Runs)) ≡ c.frame) × Every (good_tick c.partitions (ticks_of (table_of b Runs))) c.frame

-- what `ticks_of` leaves in an output long enough: the ticks, and the rest as it was
abbrev pub TicksLeft : Type 0
TicksLeft =
    (b : List ℕ) (c : Contents) (out o : List ℕ) (r : ℕ) → read_of b ≡ Ok c → c.frame ≤ length out
    → Put out 0 (ticks_put (table_of b Runs)) r o
    → (r ≡ c.frame) × (o ≡ ticks_of (table_of b Runs) ++ drop c.frame out)

-- the runs of a good plan are good runs: the writer does not refuse them
abbrev pub RunsGood : Type 0
RunsGood =
    (np : ℕ) (plan : List ℕ) → 1 ≤ length plan → length plan ≤ longest → Every (good_tick np plan) (length plan)
    → (counted_in 1 longest run_width (length (runs_of plan)) ≡ true) × Every (good_run np (length plan) (runs_of plan)) (runs (runs_of plan))

pub record Proved : Type 0 where
  pub ticks_back : TicksBack
  pub runs_back : RunsBack
  pub file_ticks : FileTicks
  pub ticks_left : TicksLeft
  pub runs_good : RunsGood
  -- "any two outcomes it permits are equal"
  pub one_put : OnePut
