-- Words that only inner contracts use: no statement and no entry's contract cites them. Assumes nothing.
use Rattle.std.specs.Prelude.{ℕ, ◌*◌, ◌≤◌, ◌≡◌, List, length}
use Rattle.rules.specs.Limits.{longest, run_width}
use Rattle.file_runs.specs.Ticks.{ticks_of}

-- runs within the limits, whose ticks are a frame
pub record Framed (frame : ℕ) (rs : List ℕ) : Type 0 where
  pub few : length rs ≤ run_width * longest
  pub in_frame : frame ≤ longest
  pub ticks : length (ticks_of rs) ≡ frame
