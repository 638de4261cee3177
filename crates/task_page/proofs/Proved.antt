-- Every promise of specs/Theorems.antt, proved. Assumes nothing.
use Prim.Native.Nat.{ℕ, suc, ◌+◌, ◌-◌, ◌*◌, ◌≤◌, ◌<◌}
use mathlib.Core.Path.{◌≡◌, refl, sym, ap, ◌∙◌}
use mathlib.Core.Logic.{◌⊎◌, inl, inr}
use mathlib.Core.Bool.{true}
use mathlib.Core.List.{List, ◌++◌}
use native.Mathlib.Omega.{arith}
use lib.ListN.{length, get_or, drop, get_or-append}
use Rattle.rules.specs.Limits.{row_width}
use Rattle.rules.specs.Table.{partitions, partition, deadline}
use Rattle.rules.specs.Terms.{rule_in}
use Rattle.rules.specs.declared.Terms.{Terms}
use Rattle.rules.proofs.Named.{new_tail}
use Rattle.rules.proofs.Sum.{le-or-lt}
use Rattle.tables.proofs.Chain.{within}
use Rattle.theory.specs.Plan.{least}
use Rattle.theory.specs.Load.{demand, last_point, point, shortage}
use Rattle.theory.specs.Task.{task_load, TaskPasses}
use Rattle.theory.specs.Inner.{least_for}
use Rattle.theory.specs.Theorems.{TightestPoint}
use Rattle.theory.proofs.Tasks.{task_last}
use Rattle.theory.proofs.Tightest.{worst_start_lowest, point-within, tightest_so}
use Rattle.task_demand.proofs.Lists.{in_order}
use Rattle.std.specs.Prelude.{Option, None, Some, Result, Ok, Err}
use Rattle.rules.specs.declared.Refusal.{Refusal}
use Rattle.task_verdict.specs.Verdict.{verdict_of}
use Rattle.task_verdict.specs.Theorems.{Answered}
use Rattle.task_verdict.proofs.Engines as verdicts
use Rattle.task_page.specs.declared.Paged.{Paged}
use Rattle.task_page.specs.declared.Paged.TheVariants.{Fail}
use Rattle.task_page.specs.Page.{rows_of, points_of, tightest_of, shortage_of, fail_of, paged_by, page_of, page_left}
use Rattle.task_page.specs.Theorems.{PageBy, page_refused, page_pass, page-short, page_fail, PageAnswers, Row, Rows, PageRows, PageTightest, PageOne, Proved}
use Rattle.task_page.proofs.Rows.{rows-length}
use Rattle.task_page.proofs.Fails.{too_short, fails_so}
use Rattle.task_page.proofs.Listed.{At, at_front, listed}

page_one : PageOne
page_one terms plan ps ts place list o o' r r' a b =
    let q : r ≡ r' = a.0 ∙ sym b.0 in
    (q, a.1 ∙ ap (λ (x : Result Paged Refusal). page_left x (rows_of (rule_in terms) plan ts (place - 1)) list) q ∙ sym b.1)

page_answers : PageAnswers
unfolding page_of
page_answers terms plan ps ts place room = by (verdict_of terms plan ps ts place)
  where
    failing : (row_width * points_of ts (place - 1) ≤ room) ⊎ (room < row_width * points_of ts (place - 1)) → PageBy (rule_in terms) plan ts (place - 1) room (Ok None) (fail_of (rule_in terms) plan ts (place - 1) room)
    failing (inl l) = rw (← fails_so (rule_in terms) plan ts (place - 1) room (points_of ts (place - 1)) refl _ _ l refl refl) (page_fail l)
    failing (inr l) = rw (← too_short (rule_in terms) plan ts (place - 1) room (points_of ts (place - 1)) refl l) (page-short l)

    by : (j : Result (Option ℕ) Refusal) → PageBy (rule_in terms) plan ts (place - 1) room j (paged_by j (fail_of (rule_in terms) plan ts (place - 1) room))
    by (Ok (Some t)) = page_pass t
    by (Ok None) = failing (le-or-lt (row_width * points_of ts (place - 1)) room)
    by (Err r) = page_refused r

-- what an answer with rows says
record Failing (terms : Terms) (plan ps ts : List ℕ) (place room n t h : ℕ) : Type 0 where
  answered : Answered terms plan ps ts place
  fails : ¬ TaskPasses (rule_in terms) plan ts (place - 1)
  room_enough : row_width * n ≤ room
  points : n ≡ points_of ts (place - 1)
  tightest : t ≡ tightest_of (rule_in terms) plan ts (place - 1)
  shortage : h ≡ shortage_of (rule_in terms) plan ts (place - 1)

failing : (terms : Terms) (plan ps ts : List ℕ) (place room n t h : ℕ) → Ok (Fail n t h) ≡ page_of terms plan ps ts place room → Failing terms plan ps ts place room n t h
failing terms plan ps ts place room n t h e = by (verdict_of terms plan ps ts place) refl (page_of terms plan ps ts place room) (page_answers terms plan ps ts place room) e
  where
    by : (j : Result (Option ℕ) Refusal) → verdict_of terms plan ps ts place ≡ j → (r : Result Paged Refusal) → PageBy (rule_in terms) plan ts (place - 1) room j r → Ok (Fail n t h) ≡ r → Failing terms plan ps ts place room n t h
    by j v r (page_refused x) q = absurd (let z : ◌≡◌ {A = ℕ} 0 1 = cc in omega arith)
    by j v r (page_pass x) q = absurd (let z : ◌≡◌ {A = ℕ} 0 1 = cc in omega arith)
    by j v r (page-short l) q = absurd (let z : ◌≡◌ {A = ℕ} 0 1 = cc in omega arith)
    by j v r (page_fail l) q =
        let zn : n ≡ points_of ts (place - 1) = cc in
        let zt : t ≡ tightest_of (rule_in terms) plan ts (place - 1) = cc in
        let zh : h ≡ shortage_of (rule_in terms) plan ts (place - 1) = cc in
        let f = ((verdicts.proved).by_points.fail_exactly terms plan ps ts place).0 v in
        record { answered = f.0; fails = f.1; room_enough = rw zn l; points = zn; tightest = zt; shortage = zh }

module _ (terms : Terms) (plan ps ts : List ℕ) (place room n t h : ℕ) (w : Failing terms plan ps ts place room n t h) where
  abbrev i : ℕ
  i = place - 1

  -- at every point it falls short
  short_at_lem : (u : ℕ) → point (task_load ts) i u ≡ true → least (rule_in terms) plan (partition ts i) u < demand (task_load ts) i u
  short_at_lem u e = by (le-or-lt (demand (task_load ts) i u) (least (rule_in terms) plan (partition ts i) u))
    where
      by : (demand (task_load ts) i u ≤ least (rule_in terms) plan (partition ts i) u) ⊎ (least (rule_in terms) plan (partition ts i) u < demand (task_load ts) i u)
          → least (rule_in terms) plan (partition ts i) u < demand (task_load ts) i u
      by (inl l) = let r = point-within (task_load ts) i u e in absurd (w.fails (u, r.0, r.1, l))
      by (inr l) = l

  some_frame : 0 < length plan
  some_frame = (within (length plan) (length ps) (length ts) w.answered.good.limits).some_frame

  row_of : (u k : ℕ) (l : List ℕ) → point (task_load ts) i u ≡ true → At (rule_in terms) plan ts i u k l
      → Row (rule_in terms) plan ts i (get_or l (row_width * k) 0) (get_or l (row_width * k + 1) 0) (get_or l (row_width * k + 2) 0) (get_or l (row_width * k + 3) 0)
  row_of u k l e a =
      let s = worst_start_lowest (rule_in terms) plan (partition ts i) u some_frame in
      rw (a.first, a.second, a.third, a.fourth)
      (record { a_point = e; demand_is = refl; least_is = refl; in_frame = s.0; worst = s.1; lowest = s.2; short = short_at_lem u e })

  rows_of_lem : (list o : List ℕ) → room ≡ length list → o ≡ rows_of (rule_in terms) plan ts i ++ drop (row_width * n) list → Rows (rule_in terms) plan ts i n list o
  unfolding rows_of points_of
  rows_of_lem list o er e =
      let all = rows_of (rule_in terms) plan ts i in
      let long : length all ≡ row_width * n = rw w.points (rows-length (rule_in terms) plan ts i (suc (deadline ts i))) in
      let tail = new_tail all list o (row_width * n) e long (omega (arith, w.room_enough, er)) in
      let these = listed (rule_in terms) plan ts i (suc (deadline ts i)) in
      let front : (m : ℕ) → m < row_width * n → get_or o m 0 ≡ get_or all m 0 = λ m l. rw e (get_or-append all (drop (row_width * n) list) 0 m (omega (arith, long))) in
      record {
        as_long = tail.0;
        row = λ k l.
            let r = these.row k (omega (arith, w.points)) in
            row_of r.0 k o r.2 (rw e (at_front (rule_in terms) plan ts i r.0 k all (drop (row_width * n) list) (omega (arith, long)) r.3));
        rising = λ j k l m. rw (front (row_width * j) (omega arith), front (row_width * k) (omega arith)) (these.rising j k l (omega (arith, w.points)));
        each_point = λ u g.
            let r = these.each u (omega (arith, (point-within (task_load ts) i u g).1, task_last ts i)) g in
            (r.0, omega (arith, r.1, w.points), front (row_width * r.0) (omega (arith, r.1, w.points)) ∙ r.2);
        tail = tail.1;
      }

  tightest_of_lem : TightestPoint (task_load ts) (least (rule_in terms) plan (partition ts i)) i t × (h ≡ shortage (task_load ts) (least (rule_in terms) plan (partition ts i)) i t) × (1 ≤ h)
  unfolding tightest_of shortage_of shortage
  tightest_of_lem =
      let o = in_order ts (partitions ps) i (w.answered.good.tasks i (omega (arith, w.answered.from_1, w.answered.listed))) in
      let some : 1 ≤ last_point (task_load ts) i = omega (arith, task_last ts i, o.some, o.in_time) in
      let tight : TightestPoint (task_load ts) (least_for (rule_in terms) plan ts i) i t = rw w.tightest (tightest_so (task_load ts) (least_for (rule_in terms) plan ts i) i some) in
      let is : h ≡ shortage (task_load ts) (least_for (rule_in terms) plan ts i) i t = rw w.tightest w.shortage in
      (tight, is, omega (arith, is, short_at_lem t tight.a_point))

page_rows : PageRows
page_rows terms plan ps ts place list o n t h (a, b) = rows_of_lem terms plan ps ts place (length list) n t h (failing terms plan ps ts place (length list) n t h a) list o refl b

page_tightest : PageTightest
page_tightest terms plan ps ts place room n t h e = tightest_of_lem terms plan ps ts place room n t h (failing terms plan ps ts place room n t h (sym e))

pub proved : Proved
proved = record { page_answers = page_answers; page_rows = page_rows; page_tightest = page_tightest; page_one = page_one }
