-- Words that only inner contracts use: no statement and no entry's contract cites them. Assumes nothing.
use Rattle.std.specs.Prelude.{ℕ, Bool}
use Rattle.rules.specs.Limits.{longest, run_width}
use Rattle.tables.specs.Tables.{counted_in}

-- "runs 1 to 4,096", of a table of r numbers
abbrev pub runs_counted : ℕ → Bool
runs_counted r = counted_in 1 longest run_width r
