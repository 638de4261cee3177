-- Words that only inner contracts use: no statement and no entry's contract cites them. Assumes nothing.
use Rattle.std.specs.Prelude.{ℕ, ◌+◌, ◌<◌, ◌≡◌, Bool, true, false, List, length, Result, Ok, Err}
use Rattle.rules.specs.Walk.{fails, first}
use Rattle.rules.specs.Table.{partitions, tasks, good_part, good_task, good_tick}

-- the first bad record, counted from 0, or how many there are
abbrev pub first_bad_part : ℕ → List ℕ → ℕ
first_bad_part limit ps = first (fails (good_part limit ps)) (partitions ps)

abbrev pub first_bad_task : ℕ → List ℕ → ℕ
first_bad_task parts ts = first (fails (good_task parts ts)) (tasks ts)

abbrev pub first_bad_tick : ℕ → List ℕ → ℕ
first_bad_tick parts plan = first (fails (good_tick parts plan)) (length plan)

-- of n records each answers that it is good; or the lowest that doesn't, its place from 1
unfoldable pub Lowest : (ℕ → Bool → Type 0) → ℕ → Result (Unit {0}) ℕ → Type 0
Lowest Answers n (Ok _) = (k : ℕ) → k < n → Answers k true
Lowest Answers n (Err place) = (k : ℕ) × (place ≡ k + 1) × (k < n) × Answers k false × ((j : ℕ) → j < k → Answers j true)
