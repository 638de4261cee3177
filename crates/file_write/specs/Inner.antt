-- Words that only inner contracts use: no statement and no entry's contract cites them. Assumes nothing.
use Rattle.std.specs.Prelude.{ℕ, ◌*◌, ◌≤◌}
use Rattle.rules.specs.Limits.{newest_edition, longest, most_partitions, most_tasks, part_width, task_width, run_width}

-- an edition, a frame and tables of p, t and r numbers whose contents fit two bytes each
abbrev pub Small : ℕ → ℕ → ℕ → ℕ → ℕ → Type 0
Small e frame p t r =
    (e ≤ newest_edition) × (frame ≤ longest) × (p ≤ part_width * most_partitions) × (t ≤ task_width * most_tasks) × (r ≤ run_width * longest)
