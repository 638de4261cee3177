-- What is left to judge of an accepted file, and the text that is handed over. Assumes nothing.
use Prim.Native.Nat.{ℕ, ◌≤◌, ◌<◌}
use mathlib.Core.Path.{◌≡◌, refl, sym, ap, ◌∙◌}
use mathlib.Core.List.{List, [], ◌++◌}
use native.Mathlib.Omega.{arith}
use lib.ListN.{length, take, drop}
use borrow.Author.Tests.{lt-ltb, le-ltb}
use Rattle.rules.specs.Walk.{Every}
use Rattle.rules.specs.Table.{partitions, good_tick}
use Rattle.tables.specs.Tables.{GoodTables}
use Rattle.rules.specs.declared.Refusal.{Refusal}
use Rattle.rules.specs.declared.Refusal.TheVariants.{Tick, Output}
use Rattle.tables.proofs.Chain.{good-lowest, without_tasks, unless_good_lem}
use Rattle.std.specs.Prelude.{Result, Ok, Err}
use Rattle.rules.specs.Terms.{filed, rule_of, wanted}
use Rattle.plan_check.specs.Check.{scan_of, plan_check_of, check_of}
use Rattle.file_read.specs.declared.Contents.{Contents}
use Rattle.file_read.specs.declared.Body.TheVariants.{Partitions, Tasks, Runs}
use Rattle.file_read.specs.Reader.{read_of, table_of}
use Rattle.output.specs.Put.{Put}
use Rattle.output.proofs.Put.{put_front, put_taken}
use Rattle.file_runs.specs.Ticks.{ticks_of}
use Rattle.file_runs.proofs.Loaded.{fit, sized, framed}
use Rattle.file_listing.specs.Listing.{tables_lines, read_lines, listing_of, list_of, listed_left}
use Rattle.file_listing.specs.Inner.{Listable}

-- ---- the tables

module _ (b : List ℕ) (c : Contents) (e : read_of b ≡ Ok c) where
  -- of the plan of a file that was read only 9 is left
  pub scanned : check_of (filed c.edition) (ticks_of (table_of b Runs)) (table_of b Partitions) ≡ scan_of (rule_of c.edition) (wanted (filed c.edition) (table_of b Partitions)) (ticks_of (table_of b Runs)) (table_of b Partitions)
  unfolding check_of plan_check_of
  scanned =
      let f = fit b c e in
      let plan : List ℕ = ticks_of (table_of b Runs) in
      let ps : List ℕ = table_of b Partitions in
      let g : GoodTables (filed c.edition) (length plan) ps [] = rw f.ticks (without_tasks c.frame ps (table_of b Tasks) f.good) in
      let t : Every (good_tick (partitions ps) plan) (length plan) = rw (f.parts, f.ticks) f.owned in
      unless_good_lem (filed c.edition) (length plan) ps [] Err (plan_check_of (rule_of c.edition) (wanted (filed c.edition) ps) plan ps) g ∙ rw (good-lowest Tick (good_tick (partitions ps) plan) (length plan) t)

  pub listable : Listable c.edition c.frame (table_of b Partitions) (table_of b Tasks) (table_of b Runs)
  listable =
      let f = fit b c e in
      let s = sized b c e in
      record {
        records = record { few_parts = rw e s.parts_high; few_tasks = rw e s.tasks_high; good = f.good.tasks };
        framed = framed b c e;
        judged = scanned;
      }

  pub tables_listed : tables_lines c.edition c.frame (ticks_of (table_of b Runs)) (table_of b Partitions) (table_of b Tasks) ≡ listing_of b
  unfolding listing_of
  tables_listed = sym (ap (λ (k : Result Contents Refusal). read_lines k b) e)

-- ---- the text

module _ (b page0 page out : List ℕ) (n : ℕ) (p : Put page0 0 (listing_of b) n page) where
  long : length (listing_of b) ≡ n
  long = omega (arith, p.place)

  pub listed-short : length out < n → (Err Output ≡ list_of b (length out)) × (out ≡ listed_left b out)
  unfolding list_of
  listed-short h = rw (long, lt-ltb (length out) n h) (refl, refl)

  pub listed_text : n ≤ length page0 → n ≤ length out → (o : List ℕ) (r : ℕ) → Put out 0 (take n page) r o → (Ok n ≡ list_of b (length out)) × (o ≡ listed_left b out)
  unfolding list_of
  listed_text hp ho o r q =
      let w : Put out 0 (listing_of b) r o = rw (put_taken p hp).1 at q in
      let z : o ≡ listing_of b ++ drop n out = rw long at (put_front w (omega (arith, long))) in
      rw (long, le-ltb (length out) n ho) (refl, z)
