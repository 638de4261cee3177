-- The tables that a program holds of an accepted file. Assumes nothing.
use Prim.Native.Nat.{ℕ, ◌*◌}
use mathlib.Core.Path.{◌≡◌}
use mathlib.Core.List.{List}
use native.Mathlib.Omega.{arith}
use lib.ListN.{length, take, drop, replicate, length-replicate}
use lib.Seq.{take_at}
use Rattle.rules.specs.Limits.{longest, most_partitions, most_tasks, part_width, task_width, run_width}
use Rattle.rules.specs.Walk.{Every}
use Rattle.rules.specs.Table.{partitions, tasks, good_tick}
use Rattle.rules.specs.Terms.{filed}
use Rattle.tables.specs.Tables.{GoodTables}
use Rattle.file_tables.proofs.Chain.{Sizes, sizes}
use Rattle.std.specs.Prelude.{Ok}
use Rattle.file_read.specs.declared.Contents.{Contents}
use Rattle.file_read.specs.declared.Body.TheVariants.{Partitions, Tasks, Runs}
use Rattle.file_read.specs.Reader.{table_by, contents_of, read_of, table_of}
use Rattle.file_read.specs.Inner.{front}
use Rattle.file_read.proofs.Reader.{contained, accepted, parts_are, tasks_are, runs_are, loaded_front}
use Rattle.output.specs.Put.{Put}
use Rattle.output.proofs.Put.{put_front}
use Rattle.file_runs.specs.Ticks.{ticks_of, ticks_put}
use Rattle.file_runs.specs.Inner.{Framed}
use Rattle.file_runs.proofs.Ticks.{ticks-some}
use Rattle.file_runs.proofs.Proved.{proved}

-- the ticks that are held of runs
pub ticks-held : (frame : ℕ) (rs t o : List ℕ) (r : ℕ) → Framed frame rs → length t ≡ longest → Put t 0 (ticks_put rs) r o → take frame o ≡ ticks_of rs
ticks-held frame rs t o r a l p =
    let q : Put t 0 (ticks_of rs) r o = rw (ticks-some rs a.few) at p in
    rw (put_front q (omega (arith, a.ticks, a.in_frame))) (take_at (ticks_of rs) (drop (length (ticks_of rs)) t) frame a.ticks)

-- what the checker and the verdict ask of an accepted file's tables
pub record Fit (b : List ℕ) (c : Contents) : Type 0 where
  pub ticks : length (ticks_of (table_of b Runs)) ≡ c.frame
  pub parts : partitions (table_of b Partitions) ≡ c.partitions
  pub listed : tasks (table_of b Tasks) ≡ c.tasks
  pub good : GoodTables (filed c.edition) c.frame (table_of b Partitions) (table_of b Tasks)
  pub owned : Every (good_tick c.partitions (ticks_of (table_of b Runs))) c.frame

module _ (b : List ℕ) (c : Contents) (e : read_of b ≡ Ok c) where
  pub fit : Fit b c
  fit =
      let a = accepted b c e in
      let l = (contained b c a.contents).long in
      let t = proved.file_ticks b c e in
      record {
        ticks = t.0;
        parts = rw e (omega (arith, parts_are b c l));
        listed = rw e (omega (arith, tasks_are b c l));
        good = rw e a.good.tables;
        owned = t.1;
      }

  -- every table is within its limits
  pub sized : Sizes c.edition c.frame (table_by (Ok c) b Partitions) (table_by (Ok c) b Tasks) (table_by (Ok c) b Runs)
  sized = sizes c.edition c.frame (table_by (Ok c) b Partitions) (table_by (Ok c) b Tasks) (table_by (Ok c) b Runs) (accepted b c e).good

  pub framed : Framed c.frame (table_of b Runs)
  framed = record { few = rw e (omega (arith, sized.runs_whole, sized.runs_high)); in_frame = sized.frame_high; ticks = fit.ticks }

  module _ (o : List ℕ) where
    pub parts_held : o ≡ front (table_by (contents_of b) b Partitions) (replicate (part_width * most_partitions) 0) → take (part_width * c.partitions) o ≡ table_of b Partitions
    parts_held h =
        let a = accepted b c e in
        let l = (contained b c a.contents).long in
        let s = sized in
        let n = parts_are b c l in
        rw e (loaded_front (table_by (Ok c) b Partitions) (replicate (part_width * most_partitions) 0) o (part_width * c.partitions) n
        (omega (arith, length-replicate {A = ℕ} (part_width * most_partitions) 0, s.parts_high, n)) (rw a.contents at h))

    pub tasks_held : o ≡ front (table_by (contents_of b) b Tasks) (replicate (task_width * most_tasks) 0) → take (task_width * c.tasks) o ≡ table_of b Tasks
    tasks_held h =
        let a = accepted b c e in
        let l = (contained b c a.contents).long in
        let s = sized in
        let n = tasks_are b c l in
        rw e (loaded_front (table_by (Ok c) b Tasks) (replicate (task_width * most_tasks) 0) o (task_width * c.tasks) n
        (omega (arith, length-replicate {A = ℕ} (task_width * most_tasks) 0, s.tasks_high, n)) (rw a.contents at h))

    pub runs_held : o ≡ front (table_by (contents_of b) b Runs) (replicate (run_width * longest) 0) → take (run_width * c.runs) o ≡ table_of b Runs
    runs_held h =
        let a = accepted b c e in
        let l = (contained b c a.contents).long in
        let s = sized in
        let n = runs_are b c l in
        rw e (loaded_front (table_by (Ok c) b Runs) (replicate (run_width * longest) 0) o (run_width * c.runs) n
        (omega (arith, length-replicate {A = ℕ} (run_width * longest) 0, s.runs_high, n)) (rw a.contents at h))
