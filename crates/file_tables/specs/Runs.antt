-- Runs, and what tells against the three tables of a file. Places count from 0 here, and from 1 in a refusal. Assumes nothing.
use Rattle.std.specs.Prelude.{ℕ, ◌+◌, ◌-◌, ◌/◌, List, Bool, ◌&&◌, ◌||◌, not, length, ltb, leb, eqb, Result, Err}
use Rattle.rules.specs.Limits.{longest, run_width}
use Rattle.rules.specs.Walk.{pick, sum}
use Rattle.rules.specs.Table.{field_at, partitions}
use Rattle.rules.specs.Terms.{filed}
use Rattle.tables.specs.Tables.{counted_in, lowest, unless, edition_judged, in_edition}
use Rattle.rules.specs.declared.Refusal.TheVariants.{Limits, Tick}
use Rattle.rules.specs.declared.Refusal.{Refusal}

-- "Run: owner, length."
unfoldable pub run_owner : List ℕ → ℕ → ℕ
run_owner rs k = field_at run_width rs k 0

unfoldable pub run_length : List ℕ → ℕ → ℕ
run_length rs k = field_at run_width rs k 1

abbrev pub runs : List ℕ → ℕ
runs rs = length rs / run_width

-- "neighbours differ": not so the run at k and the one before it
unfoldable pub repeats : List ℕ → ℕ → Bool
repeats rs k = ltb 0 k && eqb (run_owner rs k) (run_owner rs (k - 1))

-- the lengths, up to and with that of the run at k
abbrev pub reached : List ℕ → ℕ → ℕ
reached rs k = sum (run_length rs) (k + 1)

-- "owner, length ≥ 1; neighbours differ; lengths add up to the frame": bad is "the run at which the lengths pass the frame, or the last one if they stay
-- under; of equal neighbours it is the later"
unfoldable pub good_run : ℕ → ℕ → List ℕ → ℕ → Bool
good_run parts frame rs k =
    leb (run_owner rs k) parts && leb 1 (run_length rs k) && not (repeats rs k)
    && leb (reached rs k) frame && (ltb (k + 1) (runs rs) || leb frame (reached rs k))

-- 8
unfoldable pub runs_judged : ℕ → ℕ → List ℕ → Result (Unit {0}) Refusal
runs_judged parts frame rs = lowest Tick (good_run parts frame rs) (runs rs)

-- "2 now means neither 1 nor 2", first of all; then 3, with "runs 1 to 4,096", 6, 7 and 8 of a frame and three tables
unfoldable pub file_tables_of : ℕ → ℕ → List ℕ → List ℕ → List ℕ → Result (Unit {0}) Refusal
file_tables_of e frame ps ts rs =
    unless Err (edition_judged e)
    (pick (counted_in 1 longest run_width (length rs)) (unless Err (in_edition (filed e) frame ps ts) (runs_judged (partitions ps) frame rs)) (Err Limits))
