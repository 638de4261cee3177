-- Refusals 2 and 21, and that edition 1 and granule 1 give document 01's answers. Assumes nothing.
use Prim.Native.Nat.{ℕ, zero, suc, ◌+◌, ◌≤◌}
use mathlib.Core.Path.{◌≡◌, refl, sym, ap, fun_ext, ◌∙◌}
use mathlib.Core.Logic.{◌↔◌}
use mathlib.Core.Bool.{Bool, true, false, true≢false}
use mathlib.Core.List.{List, []}
use native.Mathlib.Omega.{arith}
use borrow.Author.Tests.{le-leb}
use lib.ListN.{length}
use Rattle.rules.specs.Limits.{longest, most_granule, newest_edition}
use Rattle.rules.specs.Walk.{gathered}
use Rattle.rules.specs.Table.{cycle, num, den}
use Rattle.rules.specs.Terms.{good_edition, good_granule, given, usual, wanted}
use Rattle.rules.specs.Refusals.{told}
use Rattle.rules.specs.declared.Terms.{Terms}
use Rattle.std.specs.Prelude.{Result, Ok, Err}
use Rattle.rules.specs.declared.Refusal.{Refusal}
use Rattle.rules.specs.declared.Refusal.TheVariants.{Edition, Limits, Granule, Partition, Task}
use Rattle.rules.proofs.Tests.{good-edition, good-granule}
use Rattle.tables.specs.Tables.{within_limits, unless, in_edition, tables_of}
use Rattle.tables.proofs.Chain.{tables_2, tables_3, tables_21, tables_on, unless_holds}
use Rattle.theory.specs.Harmonic.{frame, harmonic_plan}
use Rattle.theory.proofs.Wants.{wants_whole}
use Rattle.plan_check.specs.Check.{check_of}
use Rattle.plan_build.specs.Build.{build_of}
use Rattle.task_verdict.specs.Verdict.{answerable_of, verdict_by}
use Rattle.file_write.specs.Writer.{file_of}
use Rattle.file_runs.specs.Ticks.{runs_of}
use Rattle.file_page.specs.Page.{part_line}
use Rattle.share_line.specs.declared.What.{What}
use Rattle.share_line.specs.declared.Row.{Row}
use Rattle.share_line.specs.declared.Row.TheVariants as row
use Rattle.share_text.specs.Table.{row_at, granule_in, nums_at, records_of}
use Rattle.share_plan.specs.Answer.{written_by, write_built_of, write_plan_of, plan_file}
use Rattle.share_plan.proofs.Proved.{built_accepted}
use Rattle.demands.specs.GranuleOne.{whole_ticks, tables01, written01, GranuleOne}
use Rattle.demands.specs.Demands.{Known, BadGranule}

-- ---- 2 and 21

-- a test that is true exactly of what P says
says_not : {P : Type 0} (b : Bool) → (b ≡ true → P) → ¬ P → b ≡ false
says_not true f n = absurd (n (f refl))
says_not false f n = refl

is_known : (e : ℕ) → Known e → good_edition e ≡ true
unfolding good_edition
is_known e (l, m) = rw (le-leb 1 e l, le-leb e newest_edition m)

pub not_known : (e : ℕ) → ¬ Known e → good_edition e ≡ false
not_known e = says_not (good_edition e) (good-edition e)

-- a known edition is no bad one
pub known_good : {A : Type 0} (e : ℕ) → Known e → good_edition e ≡ false → A
known_good e k b = absurd (true≢false (sym (is_known e k) ∙ b))

is_good : (g : ℕ) → 1 ≤ g → g ≤ most_granule → good_granule g ≡ true
unfolding good_granule
is_good g l m = rw (le-leb 1 g l, le-leb g most_granule m)

not_good : (g : ℕ) → ¬ ((1 ≤ g) × (g ≤ most_granule)) → good_granule g ≡ false
not_good g = says_not (good_granule g) (good-granule g)

-- a call that asks the chain first, and answers neither 2 nor 21 behind it
module _ (i g frame : ℕ) (ps ts : List ℕ) {A : Type 0} (number : A → ℕ) (refused : Refusal → A) (next : A) (tells : (r : Refusal) → number (refused r) ≡ (told r).number) where
  abbrev terms : Terms
  terms = given i g

  abbrev answer : A
  answer = unless refused (tables_of terms frame ps ts) next

  pub edition_exactly : ¬ (number next ≡ 2) → (number answer ≡ 2) ↔ (¬ Known i)
  edition_exactly after = (
    λ h k. unless_holds terms frame ps ts (λ a. ¬ (number a ≡ 2)) refused next
        (known_good i k)
        (λ z. absurd (omega (arith, z, tells Limits)))
        (λ b z. absurd (omega (arith, z, tells Granule)))
        (λ k z. absurd (omega (arith, z, tells (Partition k))))
        (λ j z. absurd (omega (arith, z, tells (Task (j + 1)))))
        after h,
    λ n. rw (← tables_2 terms frame ps ts (not_known i n)) (tells Edition),
  )

  outside : (e w : Bool) → good_edition i ≡ e → within_limits frame (length ps) (length ts) ≡ w → ¬ (number next ≡ 21) → number answer ≡ 21 → BadGranule i g frame ps ts
  outside false w d e after h =
      let z : number (refused Edition) ≡ 21 = rw (← tables_2 terms frame ps ts d) at h in
      absurd (omega (arith, z, tells Edition))
  outside true false d e after h =
      let z : number (refused Limits) ≡ 21 = rw (← tables_on terms frame ps ts d, ← tables_3 terms frame ps ts e) at h in
      absurd (omega (arith, z, tells Limits))
  outside true true d e after h = (
    good-edition i d,
    e,
    λ n. unless_holds terms frame ps ts (λ a. ¬ (number a ≡ 21)) refused next
        (λ b z. absurd (omega (arith, z, tells Edition)))
        (λ z. absurd (omega (arith, z, tells Limits)))
        (λ b. absurd (true≢false (sym (is_good g n.0 n.1) ∙ b)))
        (λ k z. absurd (omega (arith, z, tells (Partition k))))
        (λ j z. absurd (omega (arith, z, tells (Task (j + 1)))))
        after h,
  )

  pub granule_exactly : ¬ (number next ≡ 21) → (number answer ≡ 21) ↔ BadGranule i g frame ps ts
  granule_exactly after = (
    outside (good_edition i) (within_limits frame (length ps) (length ts)) refl refl after,
    λ (k, w, n). rw (← tables_on terms frame ps ts (is_known i k), ← tables_21 terms frame ps ts w (not_good g n)) (tells Granule),
  )

-- ---- edition 1 and granule 1

whole : (ps : List ℕ) → wanted usual ps ≡ whole_ticks ps
whole ps = fun_ext (λ k. wants_whole (cycle ps k) (num ps k) (den ps k))

tables-whole : (frame : ℕ) (ps ts : List ℕ) → tables_of usual frame ps ts ≡ tables01 frame ps ts
unfolding good_edition in_edition tables_of good_granule
tables-whole frame ps ts = refl

-- the numbers of a line that gives no granule
no_number_lem : (r : Result Row What) → ((g : ℕ) → ¬ (r ≡ Ok (row.Granule g))) → granule_in r ≡ []
no_number_lem (Ok row.Nothing) h = refl
no_number_lem (Ok (row.Granule g)) h = absurd (h g refl)
no_number_lem (Ok (row.Partition m n d)) h = refl
no_number_lem (Ok (row.Task p c d t)) h = refl
no_number_lem (Err w) h = refl

no_granule : (t : List ℕ) → ((k g : ℕ) → ¬ (row_at t k ≡ Ok (row.Granule g))) → (n : ℕ) → gathered (nums_at granule_in t) n ≡ []
unfolding gathered nums_at
no_granule t h zero = refl
no_granule t h (suc n) = rw (no_granule t h n) (no_number_lem (row_at t n) (h n))

-- a built plan serves in edition 1, so that it is written
written_whole : (ps ts : List ℕ) (room : ℕ) → write_built_of usual ps ts room ≡ written01 (build_of usual ps longest) ps ts room
unfolding write_built_of
written_whole ps ts room = at (build_of usual ps longest) refl
  where
    at : (b : Result ℕ Refusal) → build_of usual ps longest ≡ b → written_by b usual ps ts room ≡ written01 b ps ts room
    at (Ok h) e = rw (built_accepted usual ps h e)
    at (Err r) e = refl

pub granule_one : GranuleOne
unfolding check_of build_of answerable_of verdict_by records_of write_plan_of plan_file part_line
granule_one = record {
  of_wants = wants_whole;
  of_tables = tables-whole;
  of_check = λ plan ps. rw (tables-whole (length plan) ps [], whole ps);
  of_build = λ ps room. rw (tables-whole _ ps [], whole ps);
  of_plan = λ ps. ap (λ (q : ℕ → ℕ). harmonic_plan q ps) (whole ps);
  of_verdicts = λ engine plan ps ts place. rw (tables-whole (length plan) ps ts, whole ps);
  of_text = λ t h. rw (no_granule t h (length t));
  of_planner = λ ps ts room. rw (tables-whole _ ps ts, written_whole ps ts room);
  of_file = λ ps ts. ap (λ (q : ℕ → ℕ). file_of 1 (frame ps) ps ts (runs_of (harmonic_plan q ps))) (whole ps);
  of_lines = λ plan ps k. rw (wants_whole (cycle ps k) (num ps k) (den ps k));
}
