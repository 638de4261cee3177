-- Every promise of specs/Theorems.antt, proved. Assumes nothing.
use Prim.Native.Nat.{ℕ, ◌+◌, ◌-◌, ◌<◌}
use mathlib.Core.Path.{◌≡◌, refl, sym, ap, ◌∙◌}
use mathlib.Core.Logic.{inl, inr}
use mathlib.Core.Bool.{Bool, true, false}
use mathlib.Core.List.{List}
use native.Mathlib.Omega.{arith}
use lib.ListN.{take}
use lib.Seq.{take_all}
use lib.Dec.{ltb, leb}
use borrow.Author.Tests.{leb-true, leb-false}
use Rattle.rules.specs.Table.{partitions, deadline}
use Rattle.rules.specs.Refusals.{told}
use Rattle.rules.specs.declared.Refusal.{Refusal}
use Rattle.rules.proofs.Tests.{pick_first}
use Rattle.tables.proofs.Chain.{not_good}
use Rattle.std.specs.Prelude.{Result, Ok, Err}
use Rattle.theory.specs.Task.{task_load, task_point, task_tick}
use Rattle.theory.specs.Inner.{least_for}
use Rattle.theory.proofs.Points.{tick_at_most_point}
use Rattle.rules.specs.Terms.{filed, rule_of, wanted}
use Rattle.rules.specs.declared.Rule.{Rule}
use Rattle.plan_check.specs.Check.{check_of, scan_of}
use Rattle.plan_check.proofs.Orders.{short_part, short_start, shortfall}
use Rattle.task_verdict.specs.Theorems.{Answered}
use Rattle.task_verdict.specs.Verdict.{pass_at, verdict_by}
use Rattle.task_verdict.proofs.Orders.{is_pass, is_fail, answer}
use Rattle.task_verdict.proofs.Engines as verdicts
use Rattle.file_page.specs.Page.{task_line}
use Rattle.file_read.specs.declared.Contents.{Contents}
use Rattle.file_read.specs.declared.Body.TheVariants.{Partitions, Tasks}
use Rattle.file_read.specs.Reader.{read_of, table_of}
use Rattle.file_read.proofs.Reader.{accepted, contents-short}
use Rattle.file_read.proofs.Proved as reader
use Rattle.file_listing.specs.Listing.{read_lines, listing_of}
use Rattle.file_listing.specs.Theorems.{plan_in, LineOfBoth, ListingFirst, Proved}
use Rattle.file_runs.proofs.Loaded.{fit}
use Rattle.file_listing.proofs.Tables.{scanned}

listed_verdict : (b : List ℕ) (c : Contents) → read_of b ≡ Ok c → (j : ℕ) → check_of (filed c.edition) (plan_in b) (table_of b Partitions) ≡ (Ok tt) → j < c.tasks
    → Answered (filed c.edition) (plan_in b) (table_of b Partitions) (table_of b Tasks) (j + 1)
listed_verdict b c e j a h = let f = fit b c e in record {
  accepted = a;
  good = rw f.ticks f.good;
  from_1 = omega arith;
  listed = omega (arith, f.listed);
}

-- an answered task's line
module _ (ed : ℕ) (plan ps ts : List ℕ) (j : ℕ) (a : Answered (filed ed) plan ps ts (j + 1)) where
  said : (engine : Rule → List ℕ → List ℕ → ℕ → ℕ) → verdict_by engine (filed ed) plan ps ts (j + 1) ≡ pass_at (deadline ts j) (engine (rule_of ed) plan ts j)
  said engine = let z : j + 1 - 1 ≡ j = omega arith in rw z at (answer (filed ed) plan ps ts (j + 1) engine a)

  listed-line : LineOfBoth ed plan ps ts j
  unfolding task_line
  listed-line = at (leb (task_point (rule_of ed) plan ts j) (deadline ts j)) refl
    where
      at : (b : Bool) → leb (task_point (rule_of ed) plan ts j) (deadline ts j) ≡ b → LineOfBoth ed plan ps ts j
      at true e =
          let h = leb-true (task_point (rule_of ed) plan ts j) (deadline ts j) e in
          let g = tick_at_most_point (task_load ts) (least_for (rule_of ed) plan ts j) j in
          inl (
            task_point (rule_of ed) plan ts j,
            task_tick (rule_of ed) plan ts j,
            said task_point ∙ is_pass _ _ h,
            said task_tick ∙ is_pass _ _ (omega arith),
            rw e,
          )
      at false e =
          let f = said task_point ∙ is_fail _ _ (leb-false (task_point (rule_of ed) plan ts j) (deadline ts j) e) in
          inr (f, ((verdicts.proved).by_ticks.fail_exactly (filed ed) plan ps ts (j + 1)).1 (((verdicts.proved).by_points.fail_exactly (filed ed) plan ps ts (j + 1)).0 f), rw e)

-- the scan's only refusal
scan_nine : (rule : Rule) (q : ℕ → ℕ) (plan ps : List ℕ) (r : Refusal) → scan_of rule q plan ps ≡ Err r → (told r).number ≡ 9
unfolding scan_of
scan_nine rule q plan ps r e =
    let a = pick_first (ltb (short_part rule q plan ps) (partitions ps)) (Err (shortfall rule q plan ps (short_part rule q plan ps) (short_start rule q plan ps (short_part rule q plan ps)))) (Ok tt) (Err r) (λ q. not_good r (sym q)) e in
    let s : shortfall rule q plan ps (short_part rule q plan ps) (short_start rule q plan ps (short_part rule q plan ps)) ≡ r = cc a.1 in
    ap (λ (x : Refusal). (told x).number) (sym s)

listing_first : ListingFirst
unfolding listing_of
listing_first b n h = step (read_of b) refl
  where
    step : (k : Result Contents Refusal) → read_of b ≡ k → read_lines (read_of (take n b)) (take n b) ≡ read_lines (read_of b) b
    step (Err x) e = rw ((reader.proved).read_first b n h, e)
    step (Ok c) e = rw (take_all n b (omega (arith, contents-short b c (accepted b c e).contents)))

pub proved : Proved
proved = record {
  listing_counts = λ b c e. ((fit b c e).ticks, (fit b c e).parts, (fit b c e).listed);
  listing_verdicts = λ b c j e a h. listed-line c.edition (plan_in b) (table_of b Partitions) (table_of b Tasks) j (listed_verdict b c e j a h);
  only_nine = λ b c r e a. scan_nine (rule_of c.edition) (wanted (filed c.edition) (table_of b Partitions)) (plan_in b) (table_of b Partitions) r (sym (scanned b c e) ∙ a);
  listing_first = listing_first;
  listing_one = λ b out o o' r r' e f. (e.0 ∙ sym f.0, e.1 ∙ sym f.1);
}
