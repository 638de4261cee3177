-- Every promise of specs/Theorems.antt, proved. Assumes nothing.
use Prim.Native.Nat.{ℕ, ◌*◌, ◌≤◌}
use mathlib.Core.Path.{◌≡◌}
use mathlib.Core.List.{List}
use native.Mathlib.Omega.{arith}
use lib.ListN.{length}
use Rattle.rules.specs.Limits.{longest, run_width}
use Rattle.rules.specs.Walk.{Every}
use Rattle.rules.specs.Table.{partitions}
use Rattle.file_tables.specs.Runs.{runs, good_run}
use Rattle.file_tables.proofs.Chain.{sizes}
use Rattle.std.specs.Prelude.{Ok}
use Rattle.file_read.specs.declared.Contents.{Contents}
use Rattle.file_read.specs.declared.Body.TheVariants.{Partitions, Tasks, Runs}
use Rattle.file_read.specs.Reader.{table_by, read_of, table_of}
use Rattle.file_read.proofs.Reader.{contained, accepted, parts_are, runs_are}
use Rattle.output.specs.Put.{Put}
use Rattle.output.proofs.Proved as output
use Rattle.file_runs.specs.Ticks.{ticks_of}
use Rattle.file_runs.specs.Theorems.{RunsBack, FileTicks, TicksLeft, RunsGood, Proved}
use Rattle.output.proofs.Put.{put_front}
use Rattle.file_runs.proofs.Ticks.{ticks-some, ticks_back}
use Rattle.file_runs.proofs.Good as good

-- the runs of an accepted file: so many numbers, a chain, as many ticks as the frame has
record FileRuns (b : List ℕ) (frame np : ℕ) : Type 0 where
  short : length (table_of b Runs) ≤ run_width * longest
  kept : good.Accepted np frame (table_of b Runs)

file-runs : (b : List ℕ) (c : Contents) → read_of b ≡ Ok c → FileRuns b c.frame c.partitions
file-runs b c e =
    let a = accepted b c e in
    let l = (contained b c a.contents).long in
    let s = sizes c.edition c.frame (table_by (Ok c) b Partitions) (table_by (Ok c) b Tasks) (table_by (Ok c) b Runs) a.good in
    let n = runs_are b c l in
    let p : partitions (table_by (Ok c) b Partitions) ≡ c.partitions = omega (arith, parts_are b c l) in
    let g : Every (good_run c.partitions c.frame (table_by (Ok c) b Runs)) (runs (table_by (Ok c) b Runs)) = rw p at a.good.runs in
    record {
      short = rw e (omega (arith, s.runs_whole, s.runs_high));
      kept = rw e (good.runs-accepted c.partitions c.frame c.runs (table_by (Ok c) b Runs) n (omega (arith, s.runs_low, s.runs_whole, n)) g);
    }

runs_back : RunsBack
runs_back b c e = good.runs_back c.partitions (table_of b Runs) (file-runs b c e).kept.chain

file_ticks : FileTicks
file_ticks b c e =
    let k = (file-runs b c e).kept in
    (k.fills, good.ticks-good c.partitions (table_of b Runs) k.chain c.frame)

ticks_left : TicksLeft
ticks_left b c out o r e h p =
    let f = file-runs b c e in
    let q : Put out 0 (ticks_of (table_of b Runs)) r o = rw (ticks-some (table_of b Runs) f.short) at p in
    (omega (arith, q.place, f.kept.fills), rw f.kept.fills at (put_front q (omega (arith, f.kept.fills))))

runs_good : RunsGood
runs_good = good.runs_good

pub proved : Proved
proved = record {
  ticks_back = ticks_back;
  runs_back = runs_back;
  file_ticks = file_ticks;
  ticks_left = ticks_left;
  runs_good = runs_good;
  one_put = (output.proved).one_put;
}
