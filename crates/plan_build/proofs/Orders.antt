-- The order of the builder's refusals, at the numbers that the code holds, and what a frame answered says of the table. Assumes nothing.
use Prim.Native.Nat.{ℕ, ◌+◌, ◌≤◌, ◌<◌}
use mathlib.Core.Path.{◌≡◌}
use mathlib.Core.Bool.{true, false}
use mathlib.Core.List.{List, []}
use lib.ListN.{length}
use lib.Dec.{ltb}
use borrow.Author.Tests.{lt-ltb, le-ltb, ltb-false}
use native.Mathlib.Omega.{arith}
use Rattle.rules.specs.Limits.{longest, most_granule, most_partitions}
use Rattle.rules.specs.Table.{partitions, cycle, num, den}
use Rattle.rules.specs.Terms.{wanted}
use Rattle.rules.specs.declared.Terms.{Terms}
use Rattle.tables.specs.Tables.{tables_of, GoodTables}
use Rattle.std.specs.Prelude.{Result, Ok, Err}
use Rattle.rules.specs.declared.Refusal.{Refusal}
use Rattle.rules.specs.declared.Refusal.TheVariants.{Edition, Limits, Granule, Partition, Task, Unharmonic, Want}
use Rattle.tables.proofs.Chain.{within, good_exactly, unless_given}
use Rattle.rules.proofs.Tests.{pick_second, good-granule, good_share_lem}
use Rattle.rules.proofs.Answers.{no_filling}
use Rattle.theory.specs.Harmonic.{frame, all_wanted}
use Rattle.plan_build.specs.Build.{unharmonic, laid_of, build_of}
use Rattle.plan_lay.specs.Inner.{Layable}

-- how many records a good table has
pub counted-few : {terms : Terms} (ps ts : List ℕ) → GoodTables terms longest ps ts → (1 ≤ partitions ps) × (partitions ps ≤ most_partitions)
counted-few ps ts g = let w = within longest (length ps) (length ts) g.limits in (w.some_part, w.few_parts)

module _ (q : ℕ → ℕ) (ps : List ℕ) (room : ℕ) where
  pub laid_10 : unharmonic ps ≡ true → Err Unharmonic ≡ laid_of q ps room
  unfolding laid_of
  laid_10 u = rw u

  module _ (u : unharmonic ps ≡ false) (h w : ℕ) (eh : h ≡ frame ps) (ew : w ≡ all_wanted q ps h) where
    pub laid_11 : h < w → Err Want ≡ laid_of q ps room
    unfolding laid_of
    laid_11 m = rw (u, ← eh, ← ew, lt-ltb h w m)

    pub laid_frame : w ≤ h → h ≤ room → Ok h ≡ laid_of q ps room
    unfolding laid_of
    laid_frame m o = rw (u, ← eh, ← ew, le-ltb h w m, le-ltb room h o)

module _ (terms : Terms) (ps : List ℕ) (room : ℕ) where
  abbrev q : ℕ → ℕ
  q = wanted terms ps

  pub build_laid : tables_of terms longest ps [] ≡ (Ok tt) → (r : Result ℕ Refusal) → r ≡ laid_of q ps room → r ≡ build_of terms ps room
  unfolding build_of
  build_laid e r h = rw e h

  pub good-few : tables_of terms longest ps [] ≡ (Ok tt) → (terms.granule ≤ most_granule) × (partitions ps ≤ most_partitions)
  good-few e = let g = (good_exactly terms longest ps []).0 e in ((good-granule terms.granule g.granule).1, (counted-few ps [] g).1)

-- ---- what an answer says

pub record Laid (terms : Terms) (ps : List ℕ) (room h : ℕ) : Type 0 where
  pub good : GoodTables terms longest ps []
  pub harmonic : unharmonic ps ≡ false
  pub enough : all_wanted (wanted terms ps) ps (frame ps) ≤ frame ps
  pub is_frame : h ≡ frame ps
  pub fits : h ≤ room

module _ (terms : Terms) (ps : List ℕ) (room : ℕ) where
  pub laid : (h : ℕ) → build_of terms ps room ≡ Ok h → Laid terms ps room h
  unfolding build_of laid_of
  laid h e =
      let a = unless_given terms longest ps [] Err (laid_of (wanted terms ps) ps room) (Ok h) (λ i. no_filling h Edition) (no_filling h Limits) (λ g. no_filling h Granule) (λ k. no_filling h (Partition k)) (λ j. no_filling h (Task (j + 1))) e in
      let d = pick_second (unharmonic ps) _ _ (Ok h) (no_filling h _) a.1 in
      let w = pick_second (ltb (frame ps) (all_wanted (wanted terms ps) ps (frame ps))) _ _ (Ok h) (no_filling h _) d.1 in
      let o = pick_second (ltb room (frame ps)) _ _ (Ok h) (no_filling h _) w.1 in
      let eh : h ≡ frame ps = cc o.1 in
      record {
        good = a.0;
        harmonic = d.0;
        enough = ltb-false _ _ w.0;
        is_frame = eh;
        fits = omega (arith, ltb-false room (frame ps) o.0);
      }

pub layable : {terms : Terms} (ps : List ℕ) → GoodTables terms longest ps [] → Layable ps
layable ps g = record { few = (counted-few ps [] g).1; cycles = λ k l. (good_share_lem longest (cycle ps k) (num ps k) (den ps k) (g.parts k l)).0 }
