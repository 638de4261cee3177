-- Laws of the runs' tests and of the refusals of a file's tables, at the numbers that the code holds. Assumes nothing.
use Prim.Native.Nat.{ℕ, ◌+◌, ◌*◌, ◌/◌, ◌≤◌, ◌<◌}
use mathlib.Core.Path.{◌≡◌, refl, sym, ap, ◌∙◌}
use mathlib.Core.List.{List}
use mathlib.Core.Bool.{Bool, true, false, not}
use native.Mathlib.Omega.{arith}
use lib.ListN.{length}
use lib.Dec.{ltb}
use Rattle.rules.specs.Limits.{most_partitions, most_tasks, longest, newest_edition, part_width, task_width, run_width}
use Rattle.rules.specs.Walk.{pick, first, fails, sum, Every}
use Rattle.rules.specs.Table.{partitions, tasks}
use Rattle.rules.specs.Terms.{good_edition, filed}
use Rattle.tables.specs.Tables.{edition_judged, in_edition, unless, GoodTables}
use Rattle.rules.specs.declared.Refusal.{Refusal}
use Rattle.rules.specs.declared.Refusal.TheVariants.{Edition, Limits, Partition, Task, Tick}
use Rattle.std.specs.Prelude.{Result, Ok, Err}
use Rattle.rules.proofs.First.{first-none}
use Rattle.rules.proofs.Sum.{sum_more}
use Rattle.rules.proofs.Tests.{pick_first, good-edition}
use Rattle.tables.proofs.Chain.{not_good, both_good, lowest-good, good-lowest, lowest-found, counted-parts, within, tables_on, good_exactly, unless_holds, usual-not_21}
use Rattle.file_tables.specs.Inner.{runs_counted}
use Rattle.file_tables.specs.Runs.{run_length, runs, good_run, runs_judged, file_tables_of}

-- a turn adds the length at k
pub total_more : (rs : List ℕ) (s k l : ℕ) → s ≡ sum (run_length rs) k → l ≡ run_length rs k → s + l ≡ sum (run_length rs) (k + 1)
total_more rs s k l es el = rw (sum_more (run_length rs) k, es, el)

-- ---- 8: the walk's find and its end

module _ (parts frame : ℕ) (rs : List ℕ) where
  pub runs_8 : (k : ℕ) → k < runs rs → ((j : ℕ) → j < k → good_run parts frame rs j ≡ true) → good_run parts frame rs k ≡ false → Err (Tick (k + 1)) ≡ runs_judged parts frame rs
  unfolding runs_judged fails
  runs_8 k l h e = lowest-found Tick (good_run parts frame rs) (runs rs) k l (first-none _ k (λ j m. ap not (h j m))) (ap not e)

  pub runs_good : Every (good_run parts frame rs) (runs rs) → (Ok tt) ≡ runs_judged parts frame rs
  unfolding runs_judged
  runs_good h = sym (good-lowest Tick (good_run parts frame rs) (runs rs) h)

-- ---- 2, 3, 6, 7, 8

-- runs that count are few
pub counted-runs : (r : ℕ) → runs_counted r ≡ true → (r ≡ run_width * (r / run_width)) × (1 ≤ r / run_width) × (r / run_width ≤ longest)
counted-runs r e = let a = counted-parts 1 longest run_width r e in (omega (arith, a.0), a.1, a.2)

module _ (ed frame : ℕ) (ps ts rs : List ℕ) where
  pub file_2 : good_edition ed ≡ false → Err Edition ≡ file_tables_of ed frame ps ts rs
  unfolding file_tables_of
  file_2 d = rw d

-- nothing tells against an edition, a frame and three tables
pub record GoodFile (ed frame : ℕ) (ps ts rs : List ℕ) : Type 0 where
  pub tables : GoodTables (filed ed) frame ps ts
  pub counted : runs_counted (length rs) ≡ true
  pub runs : Every (good_run (partitions ps) frame rs) (runs rs)

module _ (ed frame : ℕ) (ps ts rs : List ℕ) where
  pub good_of : file_tables_of ed frame ps ts rs ≡ (Ok tt) → GoodFile ed frame ps ts rs
  unfolding file_tables_of runs_judged
  good_of e =
      let i = both_good (edition_judged ed) _ e in
      let d = pick_first (good_edition ed) (Ok tt) (Err Edition) (Ok tt) (not_good Edition) i.0 in
      let a = pick_first (runs_counted (length rs)) _ _ (Ok tt) (not_good Limits) i.1 in
      let b = both_good (in_edition (filed ed) frame ps ts) (runs_judged (partitions ps) frame rs) a.1 in
      record {
        tables = (good_exactly (filed ed) frame ps ts).0 (sym (tables_on (filed ed) frame ps ts d.0) ∙ b.0);
        counted = a.0;
        runs = lowest-good Tick (good_run (partitions ps) frame rs) (runs rs) b.1;
      }

  pub of_good : GoodFile ed frame ps ts rs → file_tables_of ed frame ps ts rs ≡ (Ok tt)
  unfolding file_tables_of runs_judged
  of_good g =
      rw (g.tables.edition, g.counted, tables_on (filed ed) frame ps ts g.tables.edition ∙ (good_exactly (filed ed) frame ps ts).1 g.tables)
      (good-lowest Tick (good_run (partitions ps) frame rs) (runs rs) g.runs)

  -- a call's answer that is no refusal follows good tables
  pub follows : {A : Type 0} (refused : Refusal → A) (next z : A) → ((r : Refusal) → ¬ (refused r ≡ z))
      → unless refused (file_tables_of ed frame ps ts rs) next ≡ z → GoodFile ed frame ps ts rs × (next ≡ z)
  follows refused next z g e = go (file_tables_of ed frame ps ts rs) refl e
    where
      go : (t : Result (Unit {0}) Refusal) → file_tables_of ed frame ps ts rs ≡ t → unless refused t next ≡ z → GoodFile ed frame ps ts rs × (next ≡ z)
      go (Ok _) h e = (good_of h, e)
      go (Err r) h e = absurd (g r e)

  -- what holds of the answers to 2 where the edition is bad, to 3, to any 6, 7 and 8 and of what follows holds of the answer
  pub file_holds : {A : Type 0} (P : A → Type 0) (refused : Refusal → A) (next : A)
      → (good_edition ed ≡ false → P (refused Edition)) → P (refused Limits)
      → ((k : ℕ) → P (refused (Partition k))) → ((j : ℕ) → P (refused (Task (j + 1)))) → ((r : ℕ) → P (refused (Tick r))) → P next
      → P (unless refused (file_tables_of ed frame ps ts rs) next)
  unfolding file_tables_of runs_judged
  file_holds P refused next two three six seven eight h = judged (good_edition ed) refl
    where
      bad : ℕ
      bad = first (fails (good_run (partitions ps) frame rs)) (runs rs)

      last : (b : Bool) (r : ℕ) → P (unless refused (pick b (Err (Tick r)) (Ok tt)) next)
      last true r = eight r
      last false r = h

      counted : (b : Bool) → good_edition ed ≡ true → P (unless refused (pick b (unless Err (in_edition (filed ed) frame ps ts) (runs_judged (partitions ps) frame rs)) (Err Limits)) next)
      counted false d = three
      counted true d = rw (tables_on (filed ed) frame ps ts d)
          (unless_holds (filed ed) frame ps ts (λ (t : Result (Unit {0}) Refusal). P (unless refused t next)) Err (runs_judged (partitions ps) frame rs) two three usual-not_21 six seven (last (ltb bad (runs rs)) (bad + 1)))

      judged : (b : Bool) → good_edition ed ≡ b → P (unless refused (unless Err (pick b (Ok tt) (Err Edition)) (pick (runs_counted (length rs)) (unless Err (in_edition (filed ed) frame ps ts) (runs_judged (partitions ps) frame rs)) (Err Limits))) next)
      judged false d = two d
      judged true d = counted (runs_counted (length rs)) d

-- which edition a file has, and how many numbers its tables
pub record Sizes (ed frame : ℕ) (ps ts rs : List ℕ) : Type 0 where
  pub edition_low : 1 ≤ ed
  pub edition_high : ed ≤ newest_edition
  pub frame_low : 1 ≤ frame
  pub frame_high : frame ≤ longest
  pub parts_whole : length ps ≡ part_width * partitions ps
  pub parts_low : 1 ≤ partitions ps
  pub parts_high : partitions ps ≤ most_partitions
  pub tasks_whole : length ts ≡ task_width * tasks ts
  pub tasks_high : tasks ts ≤ most_tasks
  pub runs_whole : length rs ≡ run_width * runs rs
  pub runs_low : 1 ≤ runs rs
  pub runs_high : runs rs ≤ longest

pub sizes : (ed frame : ℕ) (ps ts rs : List ℕ) → GoodFile ed frame ps ts rs → Sizes ed frame ps ts rs
sizes ed frame ps ts rs g =
    let d = good-edition ed g.tables.edition in
    let w = within frame (length ps) (length ts) g.tables.limits in
    let c = counted-runs (length rs) g.counted in
    record {
      edition_low = d.0;
      edition_high = d.1;
      frame_low = w.some_frame;
      frame_high = w.longest_frame;
      parts_whole = omega (arith, w.whole_parts);
      parts_low = w.some_part;
      parts_high = w.few_parts;
      tasks_whole = omega (arith, w.whole_tasks);
      tasks_high = w.few_tasks;
      runs_whole = c.0;
      runs_low = c.1;
      runs_high = c.2;
    }
