-- Words that only inner contracts use: no statement and no entry's contract cites them. Assumes nothing.
use Rattle.std.specs.Prelude.{ℕ, ◌+◌, ◌*◌, ◌^◌, ◌≤◌, ◌<◌, ◌≡◌, Bool, true, false, List, eqb, leb, length, get_or, Option, None, Some}
use Rattle.rules.specs.Limits.{longest, most_tasks}
use Rattle.rules.specs.Walk.{pick, only, sum, round_up}
use Rattle.rules.specs.Table.{partition, budget, deadline, period}
use Rattle.rules.specs.declared.Rule.{Rule}
use Rattle.theory.specs.Inner.{least_for}

-- "C of j times t/T of j rounded up", for a task j of partition p
unfoldable pub asks_of : List ℕ → ℕ → ℕ → ℕ → ℕ
asks_of ts p t j = only (eqb (partition ts j) p) (budget ts j * round_up t (period ts j))

-- what the tasks of partition p before task k ask of t ticks
unfoldable pub all_asked : List ℕ → ℕ → ℕ → ℕ → ℕ
all_asked ts p k t = sum (asks_of ts p t) k

-- number t of a list, and what a task of budget c and period y asks of t ticks
unfoldable pub with_task : ℕ → ℕ → List ℕ → ℕ → ℕ
with_task c y list t = get_or list t 0 + c * round_up t y

-- the same of task j, where it is of partition p
unfoldable pub with_asked : List ℕ → ℕ → ℕ → List ℕ → ℕ → ℕ
with_asked ts p j list t = get_or list t 0 + asks_of ts p t j

-- numbers so small, from place b on, that one task more fits into 32 bits
pub record SmallFrom (b : ℕ) (list : List ℕ) : Type 0 where
  pub small : (t : ℕ) → b ≤ t → get_or list t 0 < 2 ^ 31

-- all of them
abbrev pub Small : List ℕ → Type 0
Small list = SmallFrom 0 list

-- x more at each place from b to e - 1, and the other numbers as they were
pub record Added (x b e : ℕ) (from to : List ℕ) : Type 0 where
  pub as_long : length to ≡ length from
  pub row : (t : ℕ) → b ≤ t → t < e → get_or to t 0 ≡ get_or from t 0 + x
  pub before : (t : ℕ) → t < b → get_or to t 0 ≡ get_or from t 0
  pub behind : (t : ℕ) → e ≤ t → get_or to t 0 ≡ get_or from t 0

-- a list of zeros, however far one looks
abbrev pub Zeros : List ℕ → Type 0
Zeros list = (t : ℕ) → get_or list t 0 ≡ 0

-- "1 ≤ C ≤ D ≤ T ≤ 4,096"
pub record InOrder (ts : List ℕ) (j : ℕ) : Type 0 where
  pub some : 1 ≤ budget ts j
  pub in_time : budget ts j ≤ deadline ts j
  pub in_period : deadline ts j ≤ period ts j
  pub short : period ts j ≤ longest

-- task i and all before it are so
pub record Judgeable (ts : List ℕ) (i : ℕ) : Type 0 where
  pub few : i < most_tasks
  pub in_order : (j : ℕ) → j ≤ i → InOrder ts j

-- "demand(t) ≤ least(t)", of a task with budget c, by the lists
unfoldable pub fits_at : List ℕ → List ℕ → ℕ → ℕ → Bool
fits_at curve asks c t = leb (c + get_or asks t 0) (get_or curve t 0)

-- up to the deadline of task i one list is its partition's curve, the other what the higher tasks ask
pub record Drawn (rule : Rule) (plan ts : List ℕ) (i : ℕ) (curve asks : List ℕ) : Type 0 where
  pub long : deadline ts i < length curve
  pub asks_long : deadline ts i < length asks
  pub least_is : (t : ℕ) → t ≤ deadline ts i → get_or curve t 0 ≡ least_for rule plan ts i t
  pub asked_is : (t : ℕ) → t ≤ deadline ts i → get_or asks t 0 ≡ all_asked ts (partition ts i) i t

-- a test may be asked at each tick from 1 to d
unfoldable pub TriesTo : (ℕ → Type 0) → ℕ → Type 0
TriesTo May d = (t : ℕ) → 1 ≤ t → t ≤ d → May t

-- the lowest tick from 1 to d that a test passes, or none: it answers at every tick up to there
unfoldable pub Earliest : (ℕ → Bool → Type 0) → ℕ → Option ℕ → Type 0
Earliest Answers d (Some t) = (1 ≤ t) × (t ≤ d) × Answers t true × ((u : ℕ) → 1 ≤ u → u < t → Answers u false)
Earliest Answers d None = (u : ℕ) → 1 ≤ u → u ≤ d → Answers u false

-- t, unless it is past d
unfoldable pub in_time : ℕ → ℕ → Option ℕ
in_time d t = pick (leb t d) (Some t) None
