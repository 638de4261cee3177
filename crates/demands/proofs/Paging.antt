-- The demands of the page's entry, from what is told to the rule's answer, beside the verdict's. Assumes nothing.
use Prim.Native.Nat.{ℕ, ◌-◌, ◌≤◌}
use mathlib.Core.Path.{◌≡◌, refl, sym, ap, subst, ◌∙◌}
use mathlib.Core.Logic.{◌↔◌}
use mathlib.Core.Bool.{Bool, true, false, ◌||◌}
use mathlib.Core.List.{List, [], ◌∷◌}
use native.Mathlib.Omega.{arith}
use lib.Dec.{eqb}
use lib.ListN.{length}
use Rattle.rules.specs.Walk.{only, fails, first, sum, count, smallest, gathered, undercuts, least_at, first_least, round_up}
use Rattle.rules.specs.Table.{wants, good_share, good_times, partition}
use Rattle.rules.specs.Terms.{given, rule_of, good_edition, good_granule}
use Rattle.rules.specs.Refusals.{told}
use Rattle.rules.specs.declared.Told.{Told}
use Rattle.rules.proofs.Known.{not_0}
use Rattle.tables.specs.Tables.{counted_in, within_limits, in_edition, tables_of}
use Rattle.theory.specs.Plan.{owner, service, owned, least, worst, worst_start}
use Rattle.theory.specs.Load.{asked, demand, multiple, point, holds, earliest, shortage, tightest}
use Rattle.theory.specs.Task.{rival, task_load, task_point}
use Rattle.theory.specs.Theorems.{TightestPoint}
use Rattle.plan_check.specs.Check.{short_at, scan_of, plan_check_of}
use Rattle.std.specs.Prelude.{Option, Result, Ok, Err}
use Rattle.rules.specs.declared.Refusal.{Refusal}
use Rattle.task_verdict.specs.Verdict.{place_of, answerable_of, pass_at, verdict_by, verdict_of, told_judged}
use Rattle.task_page.specs.declared.Paged.{Paged}
use Rattle.task_page.specs.declared.Paged.TheVariants as paged
use Rattle.task_page.specs.Page.{row_of, row_at, rows_of, points_of, tightest_of, shortage_of, fail_of, page_of, page_left, Pages, told_page}
use Rattle.task_page.specs.Theorems.{PageBy, page_refused, page_pass, page-short, page_fail, Rows}
use Rattle.task_page.proofs.Proved.{proved}
use Rattle.api.specs.Answers.{TellsPage, TellsVerdict}
use Rattle.demands.specs.Demands.{among, Known, Numbered, Refused, BadGranule, PageSays}
use Rattle.demands.specs.EachRefusal.{TellsUnpaged, EachVerdict, EachPage}
use Rattle.demands.proofs.Judging as judging

-- ---- one more number

or_more : (a b c : Bool) → (b ≡ true → c ≡ true) → a || b ≡ true → a || c ≡ true
or_more true b c h e = refl
or_more false b c h e = h e

with_12 : (n : ℕ) → Numbered (2 ∷ 3 ∷ 21 ∷ 6 ∷ 7 ∷ 8 ∷ 9 ∷ []) (record { number = n; first = 0; second = 0; third = 0; fourth = 0; fifth = 0 }) → among (0 ∷ 2 ∷ 3 ∷ 21 ∷ 6 ∷ 7 ∷ 8 ∷ 9 ∷ 12 ∷ []) n ≡ true
with_12 n =
    more (2 ∷ 3 ∷ 21 ∷ 6 ∷ 7 ∷ 8 ∷ 9 ∷ []) (2 ∷ 3 ∷ 21 ∷ 6 ∷ 7 ∷ 8 ∷ 9 ∷ 12 ∷ []) 0
    (more (3 ∷ 21 ∷ 6 ∷ 7 ∷ 8 ∷ 9 ∷ []) (3 ∷ 21 ∷ 6 ∷ 7 ∷ 8 ∷ 9 ∷ 12 ∷ []) 2
    (more (21 ∷ 6 ∷ 7 ∷ 8 ∷ 9 ∷ []) (21 ∷ 6 ∷ 7 ∷ 8 ∷ 9 ∷ 12 ∷ []) 3
    (more (6 ∷ 7 ∷ 8 ∷ 9 ∷ []) (6 ∷ 7 ∷ 8 ∷ 9 ∷ 12 ∷ []) 21
    (more (7 ∷ 8 ∷ 9 ∷ []) (7 ∷ 8 ∷ 9 ∷ 12 ∷ []) 6
    (more (8 ∷ 9 ∷ []) (8 ∷ 9 ∷ 12 ∷ []) 7
    (more (9 ∷ []) (9 ∷ 12 ∷ []) 8
    (more [] (12 ∷ []) 9 (λ e. none e))))))))
  where
    more : (ms ns : List ℕ) (k : ℕ) → (among ms n ≡ true → among ns n ≡ true) → among (k ∷ ms) n ≡ true → among (k ∷ ns) n ≡ true
    more ms ns k h = or_more (eqb k n) (among ms n) (among ns n) h

    none : false ≡ true → among (12 ∷ []) n ≡ true
    none e = absurd (let z : ◌≡◌ {A = ℕ} 0 1 = cc in omega arith)

-- ---- beside the verdict's

module _ (i g : ℕ) (plan ps ts : List ℕ) (place : ℕ) (list o : List ℕ) (t : Told) (c : TellsPage i g plan ps ts place list o t) where
  abbrev verdict : Result (Option ℕ) Refusal
  verdict = verdict_of (given i g) plan ps ts place

  -- what the verdict's entry tells
  abbrev u : Told
  u = told_judged verdict

  tells : TellsVerdict i g plan ps ts place u
  tells = (verdict, refl, refl)

  abbrev answer : Result Paged Refusal
  answer = page_of (given i g) plan ps ts place (length list)

  page_is : t ≡ told_page answer
  page_is = c.2 ∙ ap told_page c.1.0

  left_is : o ≡ page_left answer (rows_of (rule_of i) plan ts (place - 1)) list
  left_is = c.1.1 ∙ ap (λ (r : Result Paged Refusal). page_left r (rows_of (rule_of i) plan ts (place - 1)) list) c.1.0

  ways : PageBy (rule_of i) plan ts (place - 1) (length list) verdict answer
  ways = proved.page_answers (given i g) plan ps ts place (length list)

  pub page_numbers : Numbered (2 ∷ 3 ∷ 21 ∷ 6 ∷ 7 ∷ 8 ∷ 9 ∷ 12 ∷ []) t
  page_numbers = rw page_is (by verdict answer ways (judging.judged-numbers task_point i g plan ps ts place u tells))
    where
      by : (j : Result (Option ℕ) Refusal) (r : Result Paged Refusal) → PageBy (rule_of i) plan ts (place - 1) (length list) j r → Numbered (2 ∷ 3 ∷ 21 ∷ 6 ∷ 7 ∷ 8 ∷ 9 ∷ []) (told_judged j)
          → Numbered (2 ∷ 3 ∷ 21 ∷ 6 ∷ 7 ∷ 8 ∷ 9 ∷ 12 ∷ []) (told_page r)
      by j r (page_refused x) h = with_12 (told x).number h
      by j r (page_pass x) h = refl
      by j r (page-short l) h = refl
      by j r (page_fail l) h = refl

  -- of any other number than 0 and 12 the page is as the verdict
  as_verdict : (n : ℕ) → ¬ (n ≡ 0) → ¬ (n ≡ 12) → (t.number ≡ n) ↔ (u.number ≡ n)
  as_verdict n zero twelve = subst (λ (x : Told). (x.number ≡ n) ↔ (u.number ≡ n)) (sym page_is) (by verdict answer ways)
    where
      by : (j : Result (Option ℕ) Refusal) (r : Result Paged Refusal) → PageBy (rule_of i) plan ts (place - 1) (length list) j r → ((told_page r).number ≡ n) ↔ ((told_judged j).number ≡ n)
      by j r (page_refused x) = (λ e. e, λ e. e)
      by j r (page_pass x) = (λ e. e, λ e. e)
      by j r (page-short l) = (λ e. absurd (twelve (sym e)), λ e. absurd (zero (sym e)))
      by j r (page_fail l) = (λ e. e, λ e. e)

  pub page_edition : (t.number ≡ 2) ↔ (¬ Known i)
  page_edition =
      let a = as_verdict 2 (λ z. absurd (omega arith)) (λ z. absurd (omega arith)) in
      let b = judging.judged-edition task_point i g plan ps ts place u tells in
      (λ e. b.0 (a.0 e), λ n. a.1 (b.1 n))

  pub page_granule : (t.number ≡ 21) ↔ BadGranule i g (length plan) ps ts
  page_granule =
      let a = as_verdict 21 (λ z. absurd (omega arith)) (λ z. absurd (omega arith)) in
      let b = judging.judged-granule task_point i g plan ps ts place u tells in
      (λ e. b.0 (a.0 e), λ n. a.1 (b.1 n))

  pub refused_leaves : Refused t → o ≡ list
  refused_leaves h = left_is ∙ by answer (subst (λ (x : Told). Refused x) page_is h)
    where
      by : (r : Result Paged Refusal) → Refused (told_page r) → page_left r (rows_of (rule_of i) plan ts (place - 1)) list ≡ list
      by (Ok (paged.Pass x)) n = refl
      by (Ok (paged.Fail x y z)) n = absurd (n refl)
      by (Err x) n = refl

  -- where it is neither refused nor passes
  failing : t.number ≡ 0 → t.first ≡ 0 → answer ≡ Ok (paged.Fail t.second t.third t.fourth)
  failing e h = subst (λ (x : Told). answer ≡ Ok (paged.Fail x.second x.third x.fourth)) (sym page_is) (by verdict refl answer ways (rw page_is at e) (rw page_is at h))
    where
      by : (j : Result (Option ℕ) Refusal) → verdict ≡ j → (r : Result Paged Refusal) → PageBy (rule_of i) plan ts (place - 1) (length list) j r → (told_page r).number ≡ 0 → (told_page r).first ≡ 0
          → r ≡ Ok (paged.Fail (told_page r).second (told_page r).third (told_page r).fourth)
      by j v r (page_refused x) a b = absurd (not_0 x a)
      by j v r (page_pass x) a b = absurd (let z = judging.point-from_1 (given i g) plan ps ts place x v in omega arith)
      by j v r (page-short l) a b = absurd (omega arith)
      by j v r (page_fail l) a b = refl

  pub rows_told : t.number ≡ 0 → t.first ≡ 0 → Rows (rule_of i) plan ts (place - 1) t.second list o
  rows_told e h =
      proved.page_rows (given i g) plan ps ts place list o t.second t.third t.fourth
      (subst (λ (r : Result Paged Refusal). Pages (given i g) plan ps ts place list o r) (c.1.0 ∙ failing e h) c.1)

  pub tightest-told : t.number ≡ 0 → t.first ≡ 0
      → TightestPoint (task_load ts) (least (rule_of i) plan (partition ts (place - 1))) (place - 1) t.third
      × (t.fourth ≡ shortage (task_load ts) (least (rule_of i) plan (partition ts (place - 1))) (place - 1) t.third) × (1 ≤ t.fourth)
  tightest-told e h = proved.page_tightest (given i g) plan ps ts place (length list) t.second t.third t.fourth (failing e h)

  pub refused_alike : Refused u → t ≡ u
  refused_alike h = page_is ∙ by verdict answer ways h
    where
      by : (j : Result (Option ℕ) Refusal) (r : Result Paged Refusal) → PageBy (rule_of i) plan ts (place - 1) (length list) j r → Refused (told_judged j) → told_page r ≡ told_judged j
      by j r (page_refused x) n = refl
      by j r (page_pass x) n = refl
      by j r (page-short l) n = absurd (n refl)
      by j r (page_fail l) n = absurd (n refl)

  pub short-told : t.number ≡ 12 → (u.number ≡ 0) × (u.first ≡ 0)
  short-told h = by verdict answer ways (judging.judged-numbers task_point i g plan ps ts place u tells) (rw page_is at h)
    where
      by : (j : Result (Option ℕ) Refusal) (r : Result Paged Refusal) → PageBy (rule_of i) plan ts (place - 1) (length list) j r → Numbered (2 ∷ 3 ∷ 21 ∷ 6 ∷ 7 ∷ 8 ∷ 9 ∷ []) (told_judged j) → (told_page r).number ≡ 12
          → ((told_judged j).number ≡ 0) × ((told_judged j).first ≡ 0)
      by j r (page_refused x) n e = absurd (let z : ◌≡◌ {A = Bool} false true = rw e at n in let y : ◌≡◌ {A = ℕ} 0 1 = cc in omega arith)
      by j r (page_pass x) n e = absurd (omega arith)
      by j r (page-short l) n e = (refl, refl)
      by j r (page_fail l) n e = absurd (omega arith)

  pub pass-told : 1 ≤ u.first → u.number ≡ 0 → (t ≡ u) × (o ≡ list)
  pass-told h e = by verdict answer ways h e page_is left_is
    where
      by : (j : Result (Option ℕ) Refusal) (r : Result Paged Refusal) → PageBy (rule_of i) plan ts (place - 1) (length list) j r → 1 ≤ (told_judged j).first → (told_judged j).number ≡ 0 → t ≡ told_page r
          → o ≡ page_left r (rows_of (rule_of i) plan ts (place - 1)) list → (t ≡ told_judged j) × (o ≡ list)
      by j r (page_refused x) n m a b = (a, b)
      by j r (page_pass x) n m a b = (a, b)
      by j r (page-short l) n m a b = absurd (omega arith)
      by j r (page_fail l) n m a b = absurd (omega arith)

  says : PageSays i plan ts (place - 1) list o t u
  says = record { pass = pass-told; refused = refused_alike; short = short-told; rows = rows_told; tightest = tightest-told }

pub page_says :
    (i g : ℕ) (plan ps ts : List ℕ) (place : ℕ) (list o : List ℕ) (t v : Told) → TellsPage i g plan ps ts place list o t → TellsVerdict i g plan ps ts place v
    → PageSays i plan ts (place - 1) list o t v
page_says i g plan ps ts place list o t v c (r, q, e) = subst (λ (x : Told). PageSays i plan ts (place - 1) list o t x) (sym (e ∙ ap told_judged q)) (says i g plan ps ts place list o t c)

-- ---- each refusal, by computation

-- told before any row is worked out, and the list is as it was
pub page_verdicts : EachVerdict TellsUnpaged
unfolding only fails first sum count round_up wants counted_in within_limits good_granule good_edition in_edition tables_of good_share good_times service owner owned short_at scan_of plan_check_of place_of answerable_of verdict_by page_of
page_verdicts = record {
  verdict_2 = (_, (refl, refl), refl);
  verdict_2_first = (_, (refl, refl), refl);
  verdict_3 = (_, (refl, refl), refl);
  verdict_21 = (_, (refl, refl), refl);
  verdict_21_first = (_, (refl, refl), refl);
  verdict_3_first = (_, (refl, refl), refl);
  verdict_6 = (_, (refl, refl), refl);
  verdict_7 = (_, (refl, refl), refl);
  verdict_7_first = (_, (refl, refl), refl);
  verdict_7_0 = (_, (refl, refl), refl);
  verdict_7_past = (_, (refl, refl), refl);
  verdict_8 = (_, (refl, refl), refl);
  verdict_9 = (_, (refl, refl), refl);
  verdict_9_granule = (_, (refl, refl), refl);
}

pub pages : EachPage
unfolding only fails first sum count smallest gathered undercuts least_at first_least round_up wants counted_in within_limits good_granule good_edition in_edition tables_of good_share good_times service owner owned least worst worst_start asked demand multiple point holds earliest shortage tightest rival task_load short_at scan_of plan_check_of place_of answerable_of pass_at verdict_by row_of row_at rows_of points_of tightest_of shortage_of fail_of page_of
pages = record {
  page_fail = (_, (refl, refl), refl);
  page_exact = (_, (refl, refl), refl);
  page_12 = (_, (refl, refl), refl);
  page_9_first = (_, (refl, refl), refl);
  page_pass = (_, (refl, refl), refl);
}
