-- The scheduling points are tried; by the lists of a task that gives what the rules say. Assumes nothing.
use Prim.Native.Nat.{ℕ, suc, ◌+◌, ◌≤◌}
use mathlib.Core.Path.{◌≡◌, refl, sym, ap, ap₂, ◌∙◌}
use mathlib.Core.Bool.{Bool, true, false, ◌&&◌, ◌||◌}
use mathlib.Core.List.{List}
use native.Mathlib.Numerals.{add-one}
use native.Mathlib.Decide.{ℕ_discrete}
use native.Mathlib.Omega.{arith}
use lib.Dec.{eqb, leb, ltb}
use lib.ListN.{get_or}
use borrow.Author.Tests.{le-leb, lt-leb, eq-eqb, ne_eqb}
use Rattle.rules.specs.Walk.{first, some}
use Rattle.rules.specs.Table.{budget, deadline}
use Rattle.rules.specs.declared.Rule.{Rule}
use Rattle.rules.proofs.First.{first_ext}
use Rattle.rules.proofs.Tests.{and_none}
use Rattle.theory.specs.Load.{multiple, point, holds}
use Rattle.theory.specs.Task.{task_load, task_point}
use Rattle.theory.specs.Inner.{least_for}
use Rattle.theory.proofs.Tasks.{task_earliest, task_point_lem}
use Rattle.task_demand.specs.Inner.{fits_at, Judgeable, Drawn}
use Rattle.task_demand.proofs.Lists.{asked_rises, fits_is}
use Rattle.task_points.specs.Inner.{point_at, point_fits}

-- ---- the laws that the code's proofs cite

pub at_deadline : (asks : List ℕ) (d t : ℕ) → t ≡ d → true ≡ point_at asks d t
unfolding point_at
at_deadline asks d t e = rw (eq-eqb t d e)

and_true : (b : Bool) → (b && true) ≡ b
and_true true = refl
and_true false = refl

module _ (curve asks : List ℕ) (c d : ℕ) where
  pub point_fits_lem : (t : ℕ) (b : Bool) → 1 ≤ t → fits_at curve asks c t ≡ true → b ≡ point_at asks d t → b ≡ point_fits curve asks c d t
  unfolding point_fits
  point_fits_lem t b l e f = rw (le-leb 1 t l, e, ← f) (sym (and_true b))

  pub no_fit : (t : ℕ) → fits_at curve asks c t ≡ false → false ≡ point_fits curve asks c d t
  unfolding point_fits
  no_fit t e = sym (and_none (leb 1 t && point_at asks d t) (fits_at curve asks c t) e)

  pub no_point_0 : point_fits curve asks c d 0 ≡ false
  unfolding point_fits
  no_point_0 = rw (lt-leb 1 0 (omega arith))

-- ---- by the lists of a task

and_between : (a b : Bool) → (a && b) ≡ (a && true && b)
and_between true b = refl
and_between false b = refl

module _ (rule : Rule) (plan ts : List ℕ) (i : ℕ) (curve asks : List ℕ) (g : Judgeable ts i) (w : Drawn rule plan ts i curve asks) where
  pub points_are : (t : ℕ) → t ≤ deadline ts i → (leb 1 t && point_at asks (deadline ts i) t) ≡ point (task_load ts) i t
  unfolding point_at
  points_are t l = rw (task_point_lem ts i t, le-leb t (deadline ts i) l) (ap (λ (b : Bool). leb 1 t && b) (go (ℕ_discrete t (deadline ts i))) ∙ and_between (leb 1 t) (eqb t (deadline ts i) || some (multiple (task_load ts) i t) i))
    where
      go : Dec (t ≡ deadline ts i) → (eqb t (deadline ts i) || ltb (get_or asks t 0) (get_or asks (t + 1) 0)) ≡ (eqb t (deadline ts i) || some (multiple (task_load ts) i t) i)
      go (yes e) = rw (eq-eqb t (deadline ts i) e)
      go (no n) = rw (ne_eqb t (deadline ts i) n, w.asked_is t l, w.asked_is (t + 1) (omega arith)) (sym (asked_rises ts i t g))

  pub point_is : (c d : ℕ) → c ≡ budget ts i → d ≡ deadline ts i → first (point_fits curve asks c d) (d + 1) ≡ task_point rule plan ts i
  unfolding point_fits holds
  point_is c d ec ed =
      rw (task_earliest ts i (point (task_load ts) i) (least_for rule plan ts i), ed, add-one (deadline ts i))
      (first_ext (suc (deadline ts i)) _ _ (λ t l. ap₂ ◌&&◌ (points_are t (omega arith)) (fits_is ts i rule plan curve asks w c t ec (omega arith))))
