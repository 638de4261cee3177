-- Where the parts of a plan file lie, of tables of p, t and r numbers. Assumes nothing.
use Rattle.std.specs.Prelude.{ℕ, ◌+◌, ◌*◌, ◌/◌, List, [], ◌∷◌}
use Rattle.rules.specs.Limits.{head_bytes, number_bytes, part_width, task_width, run_width}

-- "Bodies from byte 16 in that order, no gaps."
abbrev pub tasks_at : ℕ → ℕ
tasks_at p = head_bytes + number_bytes * p

abbrev pub runs_at : ℕ → ℕ → ℕ
runs_at p t = tasks_at p + number_bytes * t

abbrev pub size_of : ℕ → ℕ → ℕ → ℕ
size_of p t r = runs_at p t + number_bytes * r

-- "Contents first: edition 1, frame, then offset and count for partitions, tasks, runs"; edition e, as "we must read and write both"
abbrev pub contents : ℕ → ℕ → ℕ → ℕ → ℕ → List ℕ
contents e frame p t r = e ∷ frame ∷ head_bytes ∷ p / part_width ∷ tasks_at p ∷ t / task_width ∷ runs_at p t ∷ r / run_width ∷ []
