-- The flat tables of numbers, behind accessors that alone know a record's width. Places count from 0; past the end stands 0. Assumes nothing.
use Rattle.std.specs.Prelude.{ℕ, ◌+◌, ◌*◌, ◌/◌, ◌≡◌, List, Bool, ◌&&◌, length, get_or, leb}
use Rattle.rules.specs.Walk.{round_up}
use Rattle.rules.specs.Limits.{longest, finest_share, part_width, task_width}

-- field f of the record at place k, in a table whose records are `width` numbers wide
abbrev pub field_at : ℕ → List ℕ → ℕ → ℕ → ℕ
field_at width table k f = get_or table (width * k + f) 0

abbrev pub cycle : List ℕ → ℕ → ℕ
cycle ps k = field_at part_width ps k 0

abbrev pub num : List ℕ → ℕ → ℕ
num ps k = field_at part_width ps k 1

abbrev pub den : List ℕ → ℕ → ℕ
den ps k = field_at part_width ps k 2

abbrev pub partitions : List ℕ → ℕ
partitions ps = length ps / part_width

abbrev pub partition : List ℕ → ℕ → ℕ
partition ts j = field_at task_width ts j 0

abbrev pub budget : List ℕ → ℕ → ℕ
budget ts j = field_at task_width ts j 1

abbrev pub deadline : List ℕ → ℕ → ℕ
deadline ts j = field_at task_width ts j 2

abbrev pub period : List ℕ → ℕ → ℕ
period ts j = field_at task_width ts j 3

abbrev pub tasks : List ℕ → ℕ
tasks ts = length ts / task_width

-- document 02, ask 5: "the smallest multiple of g that is at least num·m/den"
unfoldable pub wants : ℕ → ℕ → ℕ → ℕ → ℕ
wants g m n d = round_up (n * m) (d * g) * g

-- the answer r of the call
abbrev pub WantsIs : ℕ → ℕ → ℕ → ℕ → ℕ → Type 0
WantsIs g m n d r = r ≡ wants g m n d

-- "Share num/den with 1 ≤ num ≤ den ≤ 1,000", and a cycle from 1 to the limit
unfoldable pub good_share : ℕ → ℕ → ℕ → ℕ → Bool
good_share limit m n d = leb 1 m && leb m limit && leb 1 n && leb n d && leb d finest_share

abbrev pub good_part : ℕ → List ℕ → ℕ → Bool
good_part limit ps k = good_share limit (cycle ps k) (num ps k) (den ps k)

-- "A task has 1 ≤ C ≤ D ≤ T ≤ 4,096 and names a partition of the table"
unfoldable pub good_times : ℕ → ℕ → ℕ → ℕ → ℕ → Bool
good_times parts p c d t = leb 1 p && leb p parts && leb 1 c && leb c d && leb d t && leb t longest

abbrev pub good_task : ℕ → List ℕ → ℕ → Bool
good_task parts ts j = good_times parts (partition ts j) (budget ts j) (deadline ts j) (period ts j)

-- "an owner is 0 or a partition of the table"
abbrev pub good_tick : ℕ → List ℕ → ℕ → Bool
good_tick parts plan t = leb (get_or plan t 0) parts
