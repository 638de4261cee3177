-- What the answers of an engine mean, whichever it is. Assumes nothing.
use Prim.Native.Nat.{ℕ, ◌+◌, ◌-◌, ◌≤◌, ◌<◌}
use mathlib.Core.Path.{◌≡◌, refl, sym, ap, ◌∙◌}
use mathlib.Core.Logic.{◌↔◌}
use mathlib.Core.Bool.{Bool, true, false, true≢false, ◌&&◌}
use mathlib.Core.List.{List}
use native.Mathlib.Omega.{arith}
use lib.Dec.{leb, ltb}
use lib.ListN.{length}
use borrow.Author.Tests.{le-leb, leb-true, leb-false}
use Rattle.rules.specs.Walk.{pick, Every}
use Rattle.rules.specs.Table.{partitions, tasks, deadline, good_task}
use Rattle.rules.specs.Terms.{granules, rule_in, wanted}
use Rattle.rules.specs.declared.Rule.{Rule}
use Rattle.rules.specs.declared.Terms.{Terms}
use Rattle.tables.specs.Tables.{unless, GoodTables}
use Rattle.rules.specs.declared.Refusal.{Refusal}
use Rattle.rules.specs.declared.Refusal.TheVariants.{Task, Tick, Shortfall}
use Rattle.rules.specs.declared.Told.{Told}
use Rattle.rules.specs.Refusals.{placed, telling, told_done}
use Rattle.rules.proofs.Known.{named, by_told}
use Rattle.tables.proofs.Chain.{unless_given, unless_good_lem, in_edition_1}
use Rattle.rules.proofs.Tests.{pick_first, pick_second}
use Rattle.theory.specs.Task.{TaskPasses}
use Rattle.theory.proofs.Switch.{passes_within}
use Rattle.theory.proofs.Tasks.{run_theorem, endless_theorem}
use Rattle.std.specs.Prelude.{Option, None, Some, Result, Ok, Err}
use Rattle.plan_check.specs.Check.{scan_of, plan_check_of}
use Rattle.plan_check.proofs.Answers.{frame-some, short-from_0, accepted_before}
use Rattle.plan_check.proofs.Orders.{short_part}
use Rattle.tables.specs.Inner.{first_bad_tick}
use Rattle.task_verdict.specs.Verdict.{place_of, answerable_of, pass_at, verdict_by, told_judged}
use Rattle.task_verdict.specs.Theorems.{Answered, AnsweredExactly, OutsideTable, VerdictPastCycle, PassExactly, FailExactly, PassedBefore, EndsInTime, EndsInTimeForEver, Engine}
use Rattle.task_verdict.proofs.Orders.{is_pass, is_fail, answerable, plan_found, judged_refused, answer}

-- ---- a pass at t, unless that is past d

module _ (d t : ℕ) where
  pub pass_at_lem : (u : ℕ) → pass_at d t ≡ Ok (Some u) → (u ≡ t) × (t ≤ d)
  unfolding pass_at
  pass_at_lem u e =
      let a = pick_first (leb t d) (Ok (Some t)) (Ok None) (Ok (Some u)) (λ q. let z : ◌≡◌ {A = ℕ} 0 1 = cc in absurd (omega arith)) e in
      let f : u ≡ t = cc a.1 in
      (f, leb-true t d a.0)

  fail_at : pass_at d t ≡ (Ok None) → d < t
  unfolding pass_at
  fail_at e =
      let a = pick_second (leb t d) (Ok (Some t)) (Ok None) (Ok None) (λ q. let z : ◌≡◌ {A = ℕ} 0 1 = cc in absurd (omega arith)) e in
      leb-false t d a.0

  not-refused : (r : Refusal) → ¬ (pass_at d t ≡ Err r)
  unfolding pass_at
  not-refused r = at (leb t d)
    where
      at : (b : Bool) → ¬ (pick b (Ok (Some t)) (Ok None) ≡ Err r)
      at true e = let z : ◌≡◌ {A = ℕ} 0 1 = cc in absurd (omega arith)
      at false e = let z : ◌≡◌ {A = ℕ} 0 1 = cc in absurd (omega arith)

-- no refusal
abbrev pub Given : Result (Option ℕ) Refusal → Type 0
Given z = (r : Refusal) → ¬ (◌≡◌ {A = Result (Option ℕ) Refusal} (Err r) z)

pub pass-given : (t : ℕ) → Given (Ok (Some t))
pass-given t r e = let z : ◌≡◌ {A = ℕ} 0 1 = cc in absurd (omega arith)

fail_given : Given (Ok None)
fail_given r e = let z : ◌≡◌ {A = ℕ} 0 1 = cc in absurd (omega arith)

after-given : (c : Result (Unit {0}) Refusal) (j z : Result (Option ℕ) Refusal) → Given z → unless Err c j ≡ z → (c ≡ (Ok tt)) × (j ≡ z)
after-given (Ok _) j z g e = (refl, e)
after-given (Err r) j z g e = absurd (g r e)

-- ---- 7 with place 0

seven_refused : (j : Result (Option ℕ) Refusal) (t : Told) → 1 ≤ t.number → ¬ (t.number ≡ 8) → told_judged j ≡ t → j ≡ Err (named t.number t.first t.second t.third t.fourth)
seven_refused (Ok (Some n)) t h g e = let z : 0 ≡ t.number = ap (λ (u : Told). u.number) e in absurd (omega arith)
seven_refused (Ok None) t h g e = let z : 0 ≡ t.number = ap (λ (u : Told). u.number) e in absurd (omega arith)
seven_refused (Err r) t h g e = ap Err (by_told r t g e)

-- neither 8 nor 9 is a 7
no_seven : (c d : Bool) (t p s h w : ℕ)
    → ¬ (◌≡◌ {A = Result (Unit {0}) Refusal} (unless Err (pick c (Err (Tick t)) (Ok tt)) (pick d (Err (Shortfall p s h w)) (Ok tt))) (Err (Task 0)))
no_seven true d t p s h w e = let z : ◌≡◌ {A = ℕ} 0 1 = cc in absurd (omega arith)
no_seven false true t p s h w e = let z : ◌≡◌ {A = ℕ} 0 1 = cc in absurd (omega arith)
no_seven false false t p s h w e = let z : ◌≡◌ {A = ℕ} 0 1 = cc in absurd (omega arith)

plan_no_seven : (rule : Rule) (q : ℕ → ℕ) (plan ps : List ℕ) → ¬ (plan_check_of rule q plan ps ≡ Err (Task 0))
unfolding plan_check_of scan_of
plan_no_seven rule q plan ps = no_seven (ltb (first_bad_tick (partitions ps) plan) (length plan)) (ltb (short_part rule q plan ps) (partitions ps)) _ _ _ _ _

module _ (terms : Terms) (plan ps ts : List ℕ) (place : ℕ) where
  outside : answerable_of terms plan ps ts place ≡ Err (Task 0) → GoodTables terms (length plan) ps ts × (leb 1 place && leb place (tasks ts) ≡ false)
  unfolding answerable_of place_of
  outside e =
      let a = unless_given terms (length plan) ps ts Err (place_of (rule_in terms) (wanted terms ps) plan ps ts place) (Err (Task 0))
      (λ i q. let z : ◌≡◌ {A = ℕ} 0 1 = cc in absurd (omega arith))
      (λ q. let z : ◌≡◌ {A = ℕ} 0 1 = cc in absurd (omega arith))
      (λ g q. let z : ◌≡◌ {A = ℕ} 0 1 = cc in absurd (omega arith))
      (λ k q. let z : ◌≡◌ {A = ℕ} 0 1 = cc in absurd (omega arith))
      (λ j q. let z : j + 1 ≡ 0 = cc in absurd (omega arith))
      e in
      (a.0, (pick_second (leb 1 place && leb place (tasks ts)) (plan_check_of (rule_in terms) (wanted terms ps) plan ps) _ (Err (Task 0)) (plan_no_seven (rule_in terms) (wanted terms ps) plan ps) a.1).0)

  is_outside : GoodTables terms (length plan) ps ts → leb 1 place && leb place (tasks ts) ≡ false → answerable_of terms plan ps ts place ≡ Err (Task 0)
  unfolding answerable_of place_of
  is_outside g e = unless_good_lem terms (length plan) ps ts Err (place_of (rule_in terms) (wanted terms ps) plan ps ts place) g ∙ rw e

  within : Answered terms plan ps ts place → place - 1 < tasks ts
  within a = omega (arith, a.from_1, a.listed)

-- ---- of an engine whose t is at most D exactly where the task passes

abbrev pub Enough : (Rule → List ℕ → List ℕ → ℕ → ℕ) → Type 0
Enough engine =
    (rule : Rule) (plan ts : List ℕ) (parts : ℕ) → Every (good_task parts ts) (tasks ts) → (i : ℕ) → i < tasks ts
    → TaskPasses rule plan ts i ↔ (engine rule plan ts i ≤ deadline ts i)

module _ (engine : Rule → List ℕ → List ℕ → ℕ → ℕ) (enough : Enough engine) where
  abbrev judge : Terms → List ℕ → List ℕ → List ℕ → ℕ → Result (Option ℕ) Refusal
  judge = verdict_by engine

  module _ (terms : Terms) (plan ps ts : List ℕ) (place : ℕ) where
    abbrev d : ℕ
    d = deadline ts (place - 1)

    abbrev t : ℕ
    t = engine (rule_in terms) plan ts (place - 1)

    -- what a verdict that is given says of the input
    pub given : (z : Result (Option ℕ) Refusal) → Given z → judge terms plan ps ts place ≡ z → Answered terms plan ps ts place × (pass_at d t ≡ z)
    unfolding verdict_by
    given z g e = let s = after-given (answerable_of terms plan ps ts place) (pass_at d t) z g e in (answerable terms plan ps ts place s.0, s.1)

    refused : (r : Refusal) → judge terms plan ps ts place ≡ Err r → answerable_of terms plan ps ts place ≡ Err r
    unfolding verdict_by
    refused r = at (answerable_of terms plan ps ts place)
      where
        at : (c : Result (Unit {0}) Refusal) → unless Err c (pass_at d t) ≡ Err r → c ≡ Err r
        at (Ok _) e = absurd (not-refused d t r e)
        at (Err q) e = let f : q ≡ r = cc e in ap Err f

    pub reached : Answered terms plan ps ts place → TaskPasses (rule_in terms) plan ts (place - 1) ↔ (t ≤ d)
    reached a = enough (rule_in terms) plan ts (partitions ps) a.good.tasks (place - 1) (within terms plan ps ts place a)

    passed : (u : ℕ) → judge terms plan ps ts place ≡ Ok (Some u) → Answered terms plan ps ts place × TaskPasses (rule_in terms) plan ts (place - 1)
    passed u e = let w = given (Ok (Some u)) (pass-given u) e in (w.0, (reached w.0).1 (pass_at_lem d t u w.1).1)

    pub passes : Answered terms plan ps ts place × TaskPasses (rule_in terms) plan ts (place - 1) → (u : ℕ) × (judge terms plan ps ts place ≡ Ok (Some u))
    passes (a, p) = (t, answer terms plan ps ts place engine a ∙ is_pass d t ((reached a).0 p))

    failed : judge terms plan ps ts place ≡ (Ok None) → Answered terms plan ps ts place × ¬ TaskPasses (rule_in terms) plan ts (place - 1)
    failed e =
        let w = given (Ok None) fail_given e in
        (w.0, λ p. absurd (omega (arith, (reached w.0).0 p, fail_at d t w.1)))

    fails : Answered terms plan ps ts place × ¬ TaskPasses (rule_in terms) plan ts (place - 1) → judge terms plan ps ts place ≡ (Ok None)
    fails (a, n) = answer terms plan ps ts place engine a ∙ at (leb t d) refl
      where
        at : (b : Bool) → leb t d ≡ b → pass_at d t ≡ (Ok None)
        at true e = absurd (n ((reached a).1 (leb-true t d e)))
        at false e = is_fail d t (leb-false t d e)

  answered_exactly : AnsweredExactly judge
  answered_exactly terms plan ps ts place = (
    λ h. (given terms plan ps ts place (judge terms plan ps ts place) (λ r e. h r (sym e)) refl).0,
    λ a r e. not-refused (d terms plan ps ts place) (t terms plan ps ts place) r (sym (answer terms plan ps ts place engine a) ∙ e),
  )

  outside_table : OutsideTable judge
  outside_table terms plan ps ts place = (
    λ e. let q = seven_refused (judge terms plan ps ts place) (placed 7 0) (omega arith) (λ q. absurd (omega arith)) e in
        let a = outside terms plan ps ts place (refused terms plan ps ts place (Task 0) q) in
        (a.0, λ i. absurd (true≢false (sym (rw (le-leb 1 place i.0, le-leb place (tasks ts) i.1)) ∙ a.1))),
    λ a. rw (← judged_refused terms plan ps ts place engine (Task 0) (is_outside terms plan ps ts place a.0 (none (leb 1 place) (leb place (tasks ts)) refl refl a.1))),
  )
    where
      none : (b c : Bool) → leb 1 place ≡ b → leb place (tasks ts) ≡ c → ¬ ((1 ≤ place) × (place ≤ tasks ts)) → b && c ≡ false
      none true true e f n = absurd (n (leb-true 1 place e, leb-true place (tasks ts) f))
      none true false e f n = refl
      none false c e f n = refl

  verdict_past_cycle : VerdictPastCycle judge
  unfolding verdict_by
  verdict_past_cycle terms plan ps ts place good inside owned k l h =
      let a = short-from_0 (rule_in terms) (wanted terms ps) plan ps (frame-some ps ts good) owned k l h in
      let e : answerable_of terms plan ps ts place ≡ plan_check_of (rule_in terms) (wanted terms ps) plan ps = plan_found terms plan ps ts place good inside in
      (a.0, a.1, a.2, a.3, nine (plan_check_of (rule_in terms) (wanted terms ps) plan ps) (answerable_of terms plan ps ts place) a.0 a.1 a.2 a.3 e a.4, a.5, a.6)
    where
      nine : (f c : Result (Unit {0}) Refusal) (p s h w : ℕ) → c ≡ f → told_done f ≡ telling 9 p s h w → told_judged (unless Err c (pass_at (deadline ts (place - 1)) (engine (rule_in terms) plan ts (place - 1)))) ≡ telling 9 p s h w
      nine (Ok _) c p s h w e g = let z : ◌≡◌ {A = ℕ} 0 9 = ap (λ (u : Told). u.number) g in absurd (omega arith)
      nine (Err r) c p s h w e g = rw e g

  pass_exactly : PassExactly judge
  pass_exactly terms plan ps ts place = (λ w. passed terms plan ps ts place w.0 w.1, passes terms plan ps ts place)

  fail_exactly : FailExactly judge
  fail_exactly terms plan ps ts place = (failed terms plan ps ts place, fails terms plan ps ts place)

  passed_before : PassedBefore judge
  passed_before terms plan ps ts place t e =
      let w = passed terms plan ps ts place t e in
      let a = w.0 in
      passes (granules terms.granule) plan ps ts place (
        record { accepted = accepted_before terms plan ps a.accepted; good = in_edition_1 a.good; from_1 = a.from_1; listed = a.listed },
        passes_within (rule_in terms) plan ts (partitions ps) a.good.tasks (place - 1) (within terms plan ps ts place a) w.1,
      )

  ends_in_time : EndsInTime judge
  ends_in_time terms plan ps ts place u c v N start work ran legal r h =
      let w = passed terms plan ps ts place u v in
      run_theorem (rule_in terms) plan ts (partitions ps) (frame-some ps ts w.0.good) w.0.good.tasks (place - 1) (within terms plan ps ts place w.0) w.1 N start work ran legal r h

  ends_in_time_for_ever : EndsInTimeForEver judge
  ends_in_time_for_ever terms plan ps ts place u c v start work ran legal r =
      let w = passed terms plan ps ts place u v in
      endless_theorem (rule_in terms) plan ts (partitions ps) (frame-some ps ts w.0.good) w.0.good.tasks (place - 1) (within terms plan ps ts place w.0) w.1 start work ran legal r

  pub engine_proved : Engine judge
  engine_proved = record {
    answered_exactly = answered_exactly;
    outside_table = outside_table;
    verdict_past_cycle = verdict_past_cycle;
    pass_exactly = pass_exactly;
    fail_exactly = fail_exactly;
    passed_before = passed_before;
    ends_in_time = ends_in_time;
    ends_in_time_for_ever = ends_in_time_for_ever;
  }
