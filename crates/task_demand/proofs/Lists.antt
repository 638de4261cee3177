-- The lists of a task: what an engine finds in them is what the rules say. Assumes nothing.
use Prim.Native.Nat.{ℕ, ◌+◌, ◌≤◌, ◌<◌}
use mathlib.Core.Path.{◌≡◌, sym, ap, ◌∙◌}
use mathlib.Core.Logic.{◌⊎◌, inl, inr}
use mathlib.Core.Bool.{true}
use mathlib.Core.List.{List}
use native.Mathlib.Numerals.{add-one}
use native.Mathlib.Omega.{arith}
use lib.Dec.{ltb, leb}
use lib.ListN.{length}
use borrow.Author.Tests.{lt-ltb, le-ltb}
use Rattle.rules.specs.Limits.{longest, most_tasks}
use Rattle.rules.specs.Inner.{AsNamed}
use Rattle.rules.specs.Walk.{some, Every}
use Rattle.rules.specs.Table.{partition, budget, deadline, period, tasks, good_task}
use Rattle.rules.specs.declared.Rule.{Rule}
use Rattle.rules.proofs.Tests.{good-times}
use Rattle.rules.proofs.Sum.{le-or-lt, sum-eq}
use Rattle.theory.specs.Plan.{least}
use Rattle.theory.specs.Load.{demand, multiple}
use Rattle.theory.specs.Task.{rival, task_load}
use Rattle.theory.specs.Inner.{least_for}
use Rattle.theory.proofs.Tasks.{task_asked, task_demand}
use Rattle.theory.proofs.Points.{demand_rises}
use Rattle.task_demand.specs.Inner.{asks_of, all_asked, InOrder, Judgeable, fits_at, Drawn}

-- "1 ≤ C ≤ D ≤ T ≤ 4,096" of a good task
pub in_order : (ts : List ℕ) (parts j : ℕ) → good_task parts ts j ≡ true → InOrder ts j
in_order ts parts j e =
    let g = good-times parts (partition ts j) (budget ts j) (deadline ts j) (period ts j) e in
    record { some = g.2; in_time = g.3; in_period = g.4; short = g.5 }

-- a table without a bad record
pub judgeable : (ts : List ℕ) (parts i : ℕ) → tasks ts ≤ most_tasks → Every (good_task parts ts) (tasks ts) → i < tasks ts → Judgeable ts i
judgeable ts parts i few good l = record { few = omega arith; in_order = λ j h. in_order ts parts j (good j (omega arith)) }

-- both lists, from what each pass leaves
pub drawn : (rule : Rule) (plan ts : List ℕ) (i p n : ℕ) (c₀ curve a₀ asks : List ℕ) → p ≡ partition ts i → n ≡ deadline ts i + 1 → n ≤ length c₀ → n ≤ length a₀
    → AsNamed (least rule plan p) n c₀ curve → AsNamed (all_asked ts (partition ts i) i) n a₀ asks → Drawn rule plan ts i curve asks
drawn rule plan ts i p n c₀ curve a₀ asks ep en lc la w v =
    record {
      long = omega (arith, w.as_long);
      asks_long = omega (arith, v.as_long);
      least_is = λ t l. w.done t (omega arith) ∙ ap (λ (x : ℕ). least rule plan x t) ep;
      asked_is = λ t l. v.done t (omega arith);
    }

-- a deadline within the lists
pub deadline_short : (ts : List ℕ) (i : ℕ) → Judgeable ts i → deadline ts i ≤ longest
deadline_short ts i g = let o = g.in_order i (omega arith) in omega (arith, o.in_period, o.short)

ltb_add : (c x y : ℕ) → ltb (c + x) (c + y) ≡ ltb x y
ltb_add c x y = go (le-or-lt y x)
  where
    go : (y ≤ x) ⊎ (x < y) → ltb (c + x) (c + y) ≡ ltb x y
    go (inl l) = le-ltb (c + x) (c + y) (omega arith) ∙ sym (le-ltb x y l)
    go (inr l) = lt-ltb (c + x) (c + y) (omega arith) ∙ sym (lt-ltb x y l)

module _ (ts : List ℕ) (i : ℕ) where
  -- what the higher tasks ask, and the task's own budget
  pub demand_is : (t : ℕ) → demand (task_load ts) i t ≡ budget ts i + all_asked ts (partition ts i) i t
  unfolding all_asked asks_of rival
  demand_is t = task_demand ts i t ∙ ap (λ (x : ℕ). budget ts i + x) (sum-eq i _ _ (task_asked ts i t))

  -- t, with the deadline not yet there, is a multiple of a higher task's period exactly where what is asked rises behind it
  pub asked_rises : (t : ℕ) → Judgeable ts i → some (multiple (task_load ts) i t) i ≡ ltb (all_asked ts (partition ts i) i t) (all_asked ts (partition ts i) i (t + 1))
  unfolding task_load
  asked_rises t g =
      let rise = demand_rises (task_load ts) i (λ j l b. omega (arith, (g.in_order j (omega arith)).some, (g.in_order j (omega arith)).in_time, (g.in_order j (omega arith)).in_period)) (λ j l. (g.in_order j (omega arith)).some) t in
      rise ∙ rw (demand_is t, ← add-one t, demand_is (t + 1)) (ltb_add (budget ts i) (all_asked ts (partition ts i) i t) (all_asked ts (partition ts i) i (t + 1)))

  module _ (rule : Rule) (plan curve asks : List ℕ) (w : Drawn rule plan ts i curve asks) where
    pub fits_is : (c t : ℕ) → c ≡ budget ts i → t ≤ deadline ts i → fits_at curve asks c t ≡ leb (demand (task_load ts) i t) (least_for rule plan ts i t)
    unfolding fits_at
    fits_is c t e l = rw (e, w.least_is t l, w.asked_is t l, demand_is t)
