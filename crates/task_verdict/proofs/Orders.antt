-- The order of the verdict's refusals, and what is said of a task, at the numbers that the code holds. Assumes nothing.
use Prim.Native.Nat.{ℕ, ◌-◌, ◌≤◌, ◌<◌}
use mathlib.Core.Path.{◌≡◌, refl, sym, ◌∙◌}
use mathlib.Core.Bool.{Bool, true, false, ◌&&◌}
use mathlib.Core.List.{List, []}
use native.Mathlib.Omega.{arith}
use lib.Dec.{leb}
use lib.ListN.{length}
use borrow.Author.Tests.{lt-leb, le-leb, leb-true}
use Rattle.rules.specs.Table.{partitions, tasks, deadline}
use Rattle.rules.proofs.Tests.{pick_first, and_parts}
use Rattle.rules.specs.Terms.{rule_in, wanted}
use Rattle.rules.specs.declared.Rule.{Rule}
use Rattle.rules.specs.declared.Terms.{Terms}
use Rattle.rules.specs.Walk.{pick}
use Rattle.tables.specs.Tables.{tables_of, unless, GoodTables}
use Rattle.rules.specs.declared.Refusal.{Refusal}
use Rattle.rules.specs.declared.Refusal.TheVariants.{Edition, Limits, Granule, Partition, Task}
use Rattle.tables.proofs.Chain.{within, not_good, without_tasks, unless_given, unless_good_lem}
use Rattle.std.specs.Prelude.{Option, None, Some, Result, Ok, Err}
use Rattle.plan_check.specs.Check.{plan_check_of, check_of}
use Rattle.task_demand.specs.Inner.{Judgeable, in_time}
use Rattle.task_demand.proofs.Lists.{judgeable}
use Rattle.task_verdict.specs.Verdict.{place_of, answerable_of, pass_at, verdict_by}
use Rattle.task_verdict.specs.Inner.{Found}
use Rattle.task_verdict.specs.Theorems.{Answered}

module _ (d t : ℕ) where
  pub is_pass : t ≤ d → pass_at d t ≡ Ok (Some t)
  unfolding pass_at
  is_pass h = rw (le-leb t d h)

  pub is_fail : d < t → pass_at d t ≡ (Ok None)
  unfolding pass_at
  is_fail h = rw (lt-leb t d h)

-- a tick that is in time passes
said : (d t : ℕ) (r : Option ℕ) → r ≡ in_time d t → ◌≡◌ {A = Result (Option ℕ) Refusal} (Ok r) (pass_at d t)
unfolding pass_at in_time
said d t r e = rw e (go (leb t d))
  where
    go : (b : Bool) → ◌≡◌ {A = Result (Option ℕ) Refusal} (Ok (pick b (Some t) None)) (pick b (Ok (Some t)) (Ok None))
    go true = refl
    go false = refl

-- ---- what an engine finds, unless something is refused

module _ (c : Result (Unit {0}) Refusal) (Finds : Option ℕ → Type 0) (z : Result (Option ℕ) Refusal) where
  pub found_none : (r : Refusal) → c ≡ Err r → z ≡ Err r → Found c Finds z
  unfolding Found
  found_none r e f = rw e f

  pub found_by : (t : Option ℕ) → c ≡ (Ok tt) → z ≡ Ok t → Finds t → Found c Finds z
  unfolding Found
  found_by t e f w = rw e (t, w, f)

-- ---- the order

module _ (rule : Rule) (q : ℕ → ℕ) (plan ps ts : List ℕ) (place : ℕ) where
  pub place_none : place < 1 → Err (Task 0) ≡ place_of rule q plan ps ts place
  unfolding place_of
  place_none l = rw (lt-leb 1 place l)

  module _ (l : 1 ≤ place) where
    pub place_past : tasks ts < place → Err (Task 0) ≡ place_of rule q plan ps ts place
    unfolding place_of
    place_past h = rw (le-leb 1 place l, lt-leb place (tasks ts) h)

    pub place_plan : (f : Result (Unit {0}) Refusal) → place ≤ tasks ts → f ≡ plan_check_of rule q plan ps → f ≡ place_of rule q plan ps ts place
    unfolding place_of
    place_plan f h e = rw (le-leb 1 place l, le-leb place (tasks ts) h) e

module _ (terms : Terms) (plan ps ts : List ℕ) (place : ℕ) where
  pub tables-refused : (r : Refusal) → tables_of terms (length plan) ps ts ≡ Err r → Err r ≡ answerable_of terms plan ps ts place
  unfolding answerable_of
  tables-refused r e = rw e

  pub tables-good : (f : Result (Unit {0}) Refusal) → tables_of terms (length plan) ps ts ≡ (Ok tt) → f ≡ place_of (rule_in terms) (wanted terms ps) plan ps ts place → f ≡ answerable_of terms plan ps ts place
  unfolding answerable_of
  tables-good f e g = rw e g

  -- of good tables the checker has 8 and 9 to answer
  checked_plan : GoodTables terms (length plan) ps ts → check_of terms plan ps ≡ plan_check_of (rule_in terms) (wanted terms ps) plan ps
  unfolding check_of
  checked_plan g = unless_good_lem terms (length plan) ps [] Err (plan_check_of (rule_in terms) (wanted terms ps) plan ps) (without_tasks (length plan) ps ts g)

  -- nothing is refused: then every rule holds
  pub answerable : answerable_of terms plan ps ts place ≡ (Ok tt) → Answered terms plan ps ts place
  unfolding answerable_of place_of
  answerable e =
      let a = unless_given terms (length plan) ps ts Err (place_of (rule_in terms) (wanted terms ps) plan ps ts place) (Ok tt) (λ i. not_good Edition) (not_good Limits) (λ g. not_good Granule) (λ k. not_good (Partition k)) (λ j. not_good _) e in
      let p = pick_first (leb 1 place && leb place (tasks ts)) _ _ (Ok tt) (not_good (Task 0)) a.1 in
      let i = and_parts (leb 1 place) (leb place (tasks ts)) p.0 in
      record {
        accepted = checked_plan a.0 ∙ p.1;
        good = a.0;
        from_1 = leb-true 1 place i.0;
        listed = leb-true place (tasks ts) i.1;
      }

  -- of good tables and a place in the table, the finding is the plan's
  pub plan_found : GoodTables terms (length plan) ps ts → (1 ≤ place) × (place ≤ tasks ts) → answerable_of terms plan ps ts place ≡ plan_check_of (rule_in terms) (wanted terms ps) plan ps
  unfolding answerable_of place_of
  plan_found g i =
      unless_good_lem terms (length plan) ps ts Err (place_of (rule_in terms) (wanted terms ps) plan ps ts place) g ∙ rw (le-leb 1 place i.0, le-leb place (tasks ts) i.1)

  -- and where they do, nothing is
  is_answerable : Answered terms plan ps ts place → answerable_of terms plan ps ts place ≡ (Ok tt)
  is_answerable a = plan_found a.good (a.from_1, a.listed) ∙ sym (checked_plan a.good) ∙ a.accepted

  pub place_from_1 : answerable_of terms plan ps ts place ≡ (Ok tt) → 1 ≤ place
  place_from_1 e = (answerable e).from_1

  pub place_judgeable : answerable_of terms plan ps ts place ≡ (Ok tt) → Judgeable ts (place - 1)
  place_judgeable e =
      let a = answerable e in
      judgeable ts (partitions ps) (place - 1) (within (length plan) (length ps) (length ts) a.good.limits).few_tasks a.good.tasks (omega (arith, a.from_1, a.listed))

  -- either engine's answer
  module _ (engine : Rule → List ℕ → List ℕ → ℕ → ℕ) where
    pub judged_refused : (r : Refusal) → answerable_of terms plan ps ts place ≡ Err r → Err r ≡ verdict_by engine terms plan ps ts place
    unfolding verdict_by
    judged_refused r e = rw e

    -- a refusal, or what the engine finds
    pub judged_by :
        (Finds : Option ℕ → Type 0) (z : Result (Option ℕ) Refusal) → Found (answerable_of terms plan ps ts place) Finds z
        → ((t : Option ℕ) → Finds t → t ≡ in_time (deadline ts (place - 1)) (engine (rule_in terms) plan ts (place - 1)))
        → z ≡ verdict_by engine terms plan ps ts place
    unfolding verdict_by Found
    judged_by Finds z w finds = at (answerable_of terms plan ps ts place) w
      where
        at : (c : Result (Unit {0}) Refusal) → Found c Finds z → z ≡ unless Err c (pass_at (deadline ts (place - 1)) (engine (rule_in terms) plan ts (place - 1)))
        at (Ok _) (t, f, e) = e ∙ said _ _ t (finds t f)
        at (Err r) e = e

    pub answer : Answered terms plan ps ts place → verdict_by engine terms plan ps ts place ≡ pass_at (deadline ts (place - 1)) (engine (rule_in terms) plan ts (place - 1))
    unfolding verdict_by
    answer a = rw (is_answerable a)
