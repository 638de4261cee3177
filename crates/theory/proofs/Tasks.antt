-- Tasks as an instance: what their load computes to, the run theorem, the scheduling points. Assumes nothing.
use mathlib.Core.Path.{◌≡◌, refl, sym, ap, ◌∙◌, subst}
use mathlib.Core.Bool.{Bool, ◌&&◌, ◌||◌}
use mathlib.Core.List.{List}
use Prim.Native.Nat.{ℕ, suc, ◌+◌, ◌*◌, ◌≤◌, ◌<◌}
use native.Mathlib.Nat.{add-zero, add_assoc}
use native.Mathlib.Omega.{arith}
use lib.Dec.{T, eqb, leb, eqb→eq, eqb_refl}
use lib.ListN.{length}
use Rattle.rules.specs.Walk.{only, first, some, sum, count, round_up, Every}
use Rattle.rules.specs.Table.{partition, budget, deadline, period, tasks, good_task}
use mir.Facts.{yes_eqb}
use Rattle.rules.proofs.Sum.{count_ext}
use Rattle.rules.proofs.Tests.{good-times}
use Rattle.rules.specs.declared.Rule.{Rule}
use Rattle.theory.specs.Plan.{service, owned, held}
use Rattle.theory.specs.Run.{Ran, nothing, job, Waiting, at_arrival, Before, Runs, Releases, LegalTo}
use Rattle.theory.specs.Load.{asked, demand, last_point, multiple, point, holds, earliest}
use Rattle.theory.specs.Competition.{LowerBound, Brings, Queue}
use Rattle.theory.specs.Task.{rival, task_load}
use Rattle.theory.specs.Theorems.{RunTheorem, EndlessTheorem, PointsEnough, TicksExactly}
use Rattle.theory.proofs.Plan.{least_is_least, least_grows}
use Rattle.theory.proofs.Load.{load_theorem}
use Rattle.theory.proofs.Points.{load_points, load_ticks}
use Rattle.theory.specs.Inner.{least_for}
use Rattle.theory.proofs.Words.{owns_from}

-- ---- no jitter: each definition in the task table's own numbers

module _ (ts : List ℕ) (i : ℕ) where
  pub task_last : last_point (task_load ts) i ≡ deadline ts i
  unfolding task_load
  task_last = omega arith

  pub task_asked : (t j : ℕ) → asked (task_load ts) i t j ≡ only (rival ts i j) (budget ts j * round_up t (period ts j))
  unfolding asked task_load
  task_asked t j = ap (λ (x : ℕ). only (rival ts i j) (budget ts j * round_up x (period ts j))) (add-zero t)

  pub task_demand : (t : ℕ) → demand (task_load ts) i t ≡ budget ts i + sum (asked (task_load ts) i t) i
  unfolding demand task_load
  task_demand t = refl

  pub task_point_lem : (t : ℕ) → point (task_load ts) i t ≡ (leb 1 t && leb t (deadline ts i) && (eqb t (deadline ts i) || some (multiple (task_load ts) i t) i))
  unfolding point
  task_point_lem t = ap (λ (x : ℕ). leb 1 t && leb t x && (eqb t x || some (multiple (task_load ts) i t) i)) task_last

  pub task_earliest : (tried : ℕ → Bool) (low : ℕ → ℕ) → earliest tried (task_load ts) low i ≡ first (holds tried (task_load ts) low i) (suc (deadline ts i))
  unfolding earliest
  task_earliest tried low = ap (λ (x : ℕ). first (holds tried (task_load ts) low i) (suc x)) task_last

-- ---- the run theorem

-- "1 ≤ C ≤ D ≤ T", so a period is at least 1
in_period : (ts : List ℕ) (parts : ℕ) → Every (good_task parts ts) (tasks ts) → (j : ℕ) → j < tasks ts → (1 ≤ deadline ts j) × (deadline ts j ≤ period ts j)
in_period ts parts good j h =
    let g = good-times parts (partition ts j) (budget ts j) (deadline ts j) (period ts j) (good j h) in
    (omega (arith, g.2, g.3), g.4)

periods : (ts : List ℕ) (parts : ℕ) → Every (good_task parts ts) (tasks ts) → (i : ℕ) → i < tasks ts → (j : ℕ) → j < i → T ((task_load ts).rival i j) → 0 < (task_load ts).period j
unfolding task_load
periods ts parts good i h j l m = let g = in_period ts parts good j (omega arith) in omega (arith, g.0, g.1)

module _ (rule : Rule) (plan ts : List ℕ) (i : ℕ) where
  abbrev low : ℕ → ℕ
  low = least_for rule plan ts i

  module _ (start : ℕ) where
    -- whether tick n of the run serves the task's partition
    abbrev sv : ℕ → Bool
    sv = owns_from (service rule plan) (partition ts i) start

    -- least service bounds the service of every stretch of a run
    bound : 0 < length plan → LowerBound sv low
    unfolding owned
    bound h a t =
        let l : low t ≤ held rule plan (partition ts i) t (start + a) = least_is_least rule plan (partition ts i) t (start + a) h in
        let e : held rule plan (partition ts i) t (start + a) ≡ count (λ k. sv (a + k)) t =
        count_ext t _ _ (λ k m. ap (λ (x : ℕ). eqb (service rule plan x) (partition ts i)) (add_assoc start a k)) in
        omega arith

    -- from a legal run of the box to the queue of the task's partition
    module _ (N : ℕ) (work : ℕ → ℕ → ℕ) (ran : ℕ → Ran) (R : LegalTo N rule plan start ts work ran) where
      abbrev Mine : ℕ → ℕ → Type 0
      Mine n j = partition ts j ≡ service rule plan (start + n)

      mine : (n j : ℕ) → T (sv n) → T (rival ts i j) → Mine n j
      unfolding rival
      mine n j o m = eqb→eq _ _ m ∙ sym (eqb→eq _ _ o)

      rivals : (n j : ℕ) → T (sv n) → Mine n j → T (rival ts i j)
      unfolding rival
      rivals n j o m = yes_eqb (m ∙ eqb→eq _ _ o)

      waiting : (n j a : ℕ) → n < N → ran n ≡ job j a → Waiting at_arrival work ran n j a
      waiting n j a u e = let w = subst (Runs (Mine n) (Waiting at_arrival work ran n)) e (R.runs n u) in w.1

      in_order : (n j a : ℕ) → n < N → T (sv n) → T (rival ts i j) → Waiting at_arrival work ran n j a
          → (x : ℕ) × (y : ℕ) × (ran n ≡ job x y) × T (rival ts i x) × Before x y j a
      in_order n j a u o m w = go (ran n) refl (R.runs n u)
        where
          go : (z : Ran) → ran n ≡ z → Runs (Mine n) (Waiting at_arrival work ran n) z → (x : ℕ) × (y : ℕ) × (ran n ≡ job x y) × T (rival ts i x) × Before x y j a
          go nothing e s = absurd (s j a (mine n j o m) w)
          go (job x y) e s = (x, y, e, rivals n x o s.0, s.2 j a (mine n j o m) w)

      queue : Queue N (rival ts i) sv at_arrival work ran
      queue = record { only_waiting = waiting; in_order = in_order }

self : (ts : List ℕ) (i : ℕ) → T (rival ts i i)
unfolding rival
self ts i = eqb_refl (partition ts i)

brings : (ts : List ℕ) (i : ℕ) (work : ℕ → ℕ → ℕ) → Releases ts work → Brings (task_load ts) i at_arrival work
unfolding task_load
brings ts i work R = record { within = λ j a l m. R.within j a; apart = λ j a b l m. R.apart j a b; late = λ j a l m z. omega arith }

pub run_theorem : RunTheorem
unfolding task_load
run_theorem rule plan ts parts f good i inside pass N start work ran R r u =
    load_theorem (task_load ts) i (self ts i) (in_period ts parts good i inside).1 (periods ts parts good i inside)
    (sv rule plan ts i start) (low rule plan ts i) (bound rule plan ts i start f) pass
    N at_arrival work ran (brings ts i work R.releases) (queue rule plan ts i start N work ran R) r u

pub endless_theorem : EndlessTheorem
endless_theorem rule plan ts parts f good i inside pass start work ran R r =
    run_theorem rule plan ts parts f good i inside pass (r + deadline ts i) start work ran (R (r + deadline ts i)) r (omega arith)

-- ---- the scheduling points

pub points_enough : PointsEnough
points_enough rule plan ts parts good i inside =
    let e = load_points (task_load ts) (least_for rule plan ts i) (least_grows rule plan (partition ts i)) i (periods ts parts good i inside) in
    (λ pass. omega (arith, e.0 pass, task_last ts i), λ h. e.1 (omega (arith, task_last ts i)))

-- ---- every tick

pub ticks_exactly : TicksExactly
ticks_exactly rule plan ts i =
    let e = load_ticks (task_load ts) (least_for rule plan ts i) i in
    (λ pass. omega (arith, e.0 pass, task_last ts i), λ h. e.1 (omega (arith, task_last ts i)))
