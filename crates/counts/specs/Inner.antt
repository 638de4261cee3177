-- Words that only inner contracts use: no statement and no entry's contract cites them. Assumes nothing.
use Rattle.std.specs.Prelude.{ℕ, ◌+◌, ◌*◌, ◌/◌, ◌≤◌, ◌<◌, ◌≡◌, Bool, List, length, get_or}
use Rattle.rules.specs.Walk.{fails}
use Rattle.rules.specs.Limits.{longest, most_partitions}
use Rattle.rules.specs.Table.{partitions}
use Rattle.rules.specs.declared.Rule.TheVariants.{Own}
use Rattle.theory.specs.Plan.{held}
use Rattle.counts.specs.Counts.{row_width, row_of, count_at, agrees_at, asked, start, span, questions}

-- p's count before tick k is not the plan's
unfoldable pub differs_at : List ℕ → List ℕ → ℕ → ℕ → Bool
differs_at plan list p k = fails (agrees_at plan list) (row_of plan p + k)

-- what a pass over p's numbers leaves: they are the plan's, the others as they were; no numbers are kept for idle
pub record Recounted (plan : List ℕ) (p : ℕ) (before after : List ℕ) : Type 0 where
  pub as_long : length after ≡ length before
  pub row : (i : ℕ) → i / row_width plan + 1 ≡ p → get_or after i 0 ≡ count_at plan i
  pub rest : (i : ℕ) → ¬ (i / row_width plan + 1 ≡ p) → get_or after i 0 ≡ get_or before i 0

-- the list has p's numbers, and they are the plan's
pub record Kept (plan list : List ℕ) (p : ℕ) : Type 0 where
  pub partition : 0 < p
  pub long : p * row_width plan ≤ length list
  pub counts : (k : ℕ) → k ≤ length plan → get_or list (row_of plan p + k) 0 ≡ held Own plan p k 0

-- numbers within the limits
abbrev pub Sized : List ℕ → List ℕ → Type 0
Sized plan ps = (length plan ≤ longest) × (partitions ps ≤ most_partitions)

-- the first n questions can be looked up
pub record Answerable (plan list qs : List ℕ) (n : ℕ) : Type 0 where
  pub small : length plan ≤ longest
  pub whole : n ≤ questions qs
  pub kept : (k : ℕ) → k < n → Kept plan list (asked qs k)
  pub starts : (k : ℕ) → k < n → start qs k < length plan
  pub spans : (k : ℕ) → k < n → span qs k ≤ length plan
