-- The one chain of table refusals: 2, 3, 21, 6 and 7; and 8 of a plan's ticks. Places count from 0 here, and from 1 in a refusal. Assumes nothing.
use Rattle.std.specs.Prelude.{ℕ, ◌+◌, ◌/◌, ◌%◌, ◌≡◌, List, Bool, true, ◌&&◌, length, ltb, leb, eqb, Result, Ok, Err}
use Rattle.rules.specs.Limits.{most_partitions, most_tasks, longest, part_width, task_width}
use Rattle.rules.specs.Walk.{pick, fails, first, Every}
use Rattle.rules.specs.Table.{partitions, tasks, good_part, good_task, good_tick}
use Rattle.rules.specs.Terms.{good_edition, good_granule}
use Rattle.rules.specs.declared.Terms.{Terms}
use Rattle.rules.specs.declared.Refusal.{Refusal}
use Rattle.rules.specs.declared.Refusal.TheVariants.{Edition, Limits, Granule, Partition, Task, Tick}

-- a table of whole records, how many of them within bounds
unfoldable pub counted_in : ℕ → ℕ → ℕ → ℕ → Bool
counted_in low high width numbers = eqb (numbers % width) 0 && leb low (numbers / width) && leb (numbers / width) high

-- "Partitions 1 to 16, tasks 0 to 128, frame 1 to 4,096 ticks", of tables of p and t numbers, and a number a tick; the builder, which has no frame yet, gives the longest
unfoldable pub within_limits : ℕ → ℕ → ℕ → Bool
within_limits frame p t = counted_in 1 longest 1 frame && (counted_in 1 most_partitions part_width p && counted_in 0 most_tasks task_width t)

-- "lowest place", "its place from 1": refused at the first of n records that isn't good
abbrev pub lowest : (ℕ → Refusal) → (ℕ → Bool) → ℕ → Result (Unit {0}) Refusal
lowest refusal good n = let k = first (fails good) n in pick (ltb k n) (Err (refusal (k + 1))) (Ok tt)

-- what was found tells against the call, or else what follows is its answer
abbrev pub unless : {A : Type 0} → (Refusal → A) → Result (Unit {0}) Refusal → A → A
unless refused (Ok _) next = next
unless refused (Err r) next = refused r

-- "2 now means neither 1 nor 2, in a call too"
abbrev pub edition_judged : ℕ → Result (Unit {0}) Refusal
edition_judged e = pick (good_edition e) (Ok tt) (Err Edition)

-- "g outside 1 to 16 is 21"
abbrev pub granule_judged : ℕ → Result (Unit {0}) Refusal
granule_judged g = pick (good_granule g) (Ok tt) (Err Granule)

-- "lowest place": 6, then 7. "A partition whose cycle is longer than F is a bad record (6)"
abbrev pub records_judged : ℕ → List ℕ → List ℕ → Result (Unit {0}) Refusal
records_judged frame ps ts =
    unless Err (lowest Partition (good_part frame ps) (partitions ps)) (lowest Task (good_task (partitions ps) ts) (tasks ts))

-- "Lowest number first, then lowest place": 3, "21, after 3", 6, 7
unfoldable pub in_edition : Terms → ℕ → List ℕ → List ℕ → Result (Unit {0}) Refusal
in_edition terms frame ps ts =
    pick (within_limits frame (length ps) (length ts)) (unless Err (granule_judged terms.granule) (records_judged frame ps ts)) (Err Limits)

-- 2 first of all
unfoldable pub tables_of : Terms → ℕ → List ℕ → List ℕ → Result (Unit {0}) Refusal
tables_of terms frame ps ts = unless Err (edition_judged terms.edition) (in_edition terms frame ps ts)

-- "bad .. run (or tick) record": 8 of a plan's ticks
abbrev pub ticks_judged : List ℕ → List ℕ → Result (Unit {0}) Refusal
ticks_judged plan ps = lowest Tick (good_tick (partitions ps) plan) (length plan)

-- nothing tells against the terms and the tables
pub record GoodTables (terms : Terms) (frame : ℕ) (ps ts : List ℕ) : Type 0 where
  pub edition : good_edition terms.edition ≡ true
  pub limits : within_limits frame (length ps) (length ts) ≡ true
  pub granule : good_granule terms.granule ≡ true
  pub parts : Every (good_part frame ps) (partitions ps)
  pub tasks : Every (good_task (partitions ps) ts) (tasks ts)
