-- What the page's answer says of the tables: the task can be judged, and the tick told of lies in its reach. Assumes nothing.
use Prim.Native.Nat.{ℕ, ◌-◌, ◌*◌, ◌≤◌}
use mathlib.Core.Path.{◌≡◌, refl, sym, ap, ◌∙◌}
use mathlib.Core.List.{List}
use native.Mathlib.Omega.{arith}
use lib.ListN.{length, drop}
use Rattle.rules.specs.Limits.{row_width}
use Rattle.rules.specs.Table.{partitions, deadline}
use Rattle.rules.specs.Terms.{filed, rule_of, rule_in}
use Rattle.rules.specs.declared.Rule.{Rule}
use Rattle.rules.specs.declared.Terms.{Terms}
use Rattle.tables.proofs.Chain.{within}
use Rattle.task_demand.proofs.Lists.{judgeable}
use Rattle.std.specs.Prelude.{Option, None, Some, Result, Ok}
use Rattle.rules.specs.declared.Refusal.{Refusal}
use Rattle.task_verdict.specs.Verdict.{verdict_of}
use Rattle.task_verdict.specs.Theorems.{Answered}
use Rattle.task_verdict.proofs.Engines as verdicts
use Rattle.task_page.specs.declared.Paged.{Paged}
use Rattle.task_page.specs.declared.Paged.TheVariants.{Pass, Fail}
use Rattle.task_page.specs.Page.{rows_of, points_of, tightest_of, page_of}
use Rattle.task_page.specs.Theorems.{PageBy, page_refused, page_pass, page-short, page_fail}
use Rattle.task_page.proofs.Proved as pages
use Rattle.file_read.specs.declared.Contents.{Contents}
use Rattle.file_read.specs.declared.Body.TheVariants.{Partitions, Tasks, Runs}
use Rattle.file_read.specs.Reader.{read_of, table_of}
use Rattle.file_runs.specs.Ticks.{ticks_of}
use Rattle.why_page.specs.Why.{most_numbers, tables_text, read_text, why_of}
use Rattle.why_page.specs.Inner.{InReach, Rowed, PagedSo}
use Rattle.why_page.proofs.Rows.{point_in_time, rows_long, lines-front}

-- ---- what was judged

by_pass : {rule : Rule} {plan ts : List ℕ} {i room : ℕ} {j : Result (Option ℕ) Refusal} {x : Result Paged Refusal} (t : ℕ) → PageBy rule plan ts i room j x → x ≡ Ok (Pass t) → j ≡ Ok (Some t)
by_pass t (page_refused r) e = let z : ◌≡◌ {A = ℕ} 0 1 = cc in absurd (omega arith)
by_pass t (page_pass u) e = let z : u ≡ t = cc e in rw z
by_pass t (page-short l) e = let z : ◌≡◌ {A = ℕ} 0 1 = cc in absurd (omega arith)
by_pass t (page_fail l) e = let z : ◌≡◌ {A = ℕ} 0 1 = cc in absurd (omega arith)

pub record Failing (rule : Rule) (plan ts : List ℕ) (i room : ℕ) (j : Result (Option ℕ) Refusal) (n u : ℕ) : Type 0 where
  pub judged_so : j ≡ (Ok None)
  pub rows : n ≡ points_of ts i
  pub tight : u ≡ tightest_of rule plan ts i
  pub fits : row_width * n ≤ room

by_fail : {rule : Rule} {plan ts : List ℕ} {i room : ℕ} {j : Result (Option ℕ) Refusal} {x : Result Paged Refusal} (n u h : ℕ) → PageBy rule plan ts i room j x → x ≡ Ok (Fail n u h) → Failing rule plan ts i room j n u
by_fail n u h (page_refused r) e = let z : ◌≡◌ {A = ℕ} 0 1 = cc in absurd (omega arith)
by_fail n u h (page_pass t) e = let z : ◌≡◌ {A = ℕ} 0 1 = cc in absurd (omega arith)
by_fail n u h (page-short l) e = let z : ◌≡◌ {A = ℕ} 0 1 = cc in absurd (omega arith)
by_fail {rule} {plan} {ts} {i} n u h (page_fail l) e =
    let en : n ≡ points_of ts i = cc e in
    record { judged_so = refl; rows = en; tight = cc e; fits = rw en l }

module _ (terms : Terms) (plan ps ts : List ℕ) (place room : ℕ) where
  pub pass-judged : (t : ℕ) → page_of terms plan ps ts place room ≡ Ok (Pass t) → verdict_of terms plan ps ts place ≡ Ok (Some t)
  pass-judged t e = by_pass t ((pages.proved).page_answers terms plan ps ts place room) e

  pub fail_judged : (n u h : ℕ) → page_of terms plan ps ts place room ≡ Ok (Fail n u h) → Failing (rule_in terms) plan ts (place - 1) room (verdict_of terms plan ps ts place) n u
  fail_judged n u h e = by_fail n u h ((pages.proved).page_answers terms plan ps ts place room) e

  -- ---- the task can be judged

  pub answered_reach : (t : ℕ) → Answered terms plan ps ts place → t ≤ deadline ts (place - 1) → InReach plan ts (place - 1) t
  answered_reach t a l =
      let w = within (length plan) (length ps) (length ts) a.good.limits in
      record {
        few_ticks = w.longest_frame;
        judgeable = judgeable ts (partitions ps) (place - 1) w.few_tasks a.good.tasks (omega (arith, a.from_1, a.listed));
        in_time = l;
      }

  pub pass_answered : (t : ℕ) → page_of terms plan ps ts place room ≡ Ok (Pass t) → Answered terms plan ps ts place
  pass_answered t e = (((verdicts.proved).by_points.pass_exactly terms plan ps ts place).0 (t, pass-judged t e)).0

  pub fail_answered : (n u h : ℕ) → page_of terms plan ps ts place room ≡ Ok (Fail n u h) → Answered terms plan ps ts place
  fail_answered n u h e = (((verdicts.proved).by_points.fail_exactly terms plan ps ts place).0 (fail_judged n u h e).judged_so).0

  pub pass_reach : (t : ℕ) → page_of terms plan ps ts place room ≡ Ok (Pass t) → InReach plan ts (place - 1) t
  pass_reach t e = answered_reach t (pass_answered t e) (point_in_time ts (place - 1) t ((verdicts.proved).pass_point terms plan ps ts place t (pass-judged t e)).0)

  pub fail_reach : (n u h : ℕ) → page_of terms plan ps ts place room ≡ Ok (Fail n u h) → InReach plan ts (place - 1) u
  fail_reach n u h e = answered_reach u (fail_answered n u h e) (point_in_time ts (place - 1) u ((pages.proved).page_tightest terms plan ps ts place room n u h e).0.a_point)

-- ---- what the page left

pub rowed : (e : ℕ) (plan ps ts : List ℕ) (place : ℕ) (rows : List ℕ) (n u h : ℕ) → PagedSo e plan ps ts place rows (Ok (Fail n u h)) → Rowed (rule_of e) plan ts (place - 1) rows n u
rowed e plan ps ts place rows n u h p =
    let f = fail_judged (filed e) plan ps ts place most_numbers n u h (sym p.answer) in
    record {
      reach = fail_reach (filed e) plan ps ts place most_numbers n u h (sym p.answer);
      tight = f.tight;
      few = omega (arith, f.fits);
      long = p.long;
      lines =
          rw (p.left, ← f.tight, ← f.rows)
          (lines-front u (rows_of (rule_of e) plan ts (place - 1)) (drop (row_width * n) p.list) n (rows_long (rule_of e) plan ts (place - 1) ∙ ap (λ (k : ℕ). row_width * k) (sym f.rows)));
    }

-- ---- the text

pub text_of : (b : List ℕ) (place : ℕ) (c : Contents) → read_of b ≡ Ok c → tables_text c.edition (ticks_of (table_of b Runs)) (table_of b Partitions) (table_of b Tasks) place ≡ why_of b place
unfolding why_of
text_of b place c e = sym (ap (λ (r : Result Contents Refusal). read_text r b place) e)
