-- Every tick from 1 on is tried; by the lists of a task that gives what the rules say. Assumes nothing.
use Prim.Native.Nat.{ℕ, suc, ◌+◌, ◌≤◌}
use mathlib.Core.Path.{◌≡◌, ap}
use mathlib.Core.Bool.{Bool, false, ◌&&◌}
use mathlib.Core.List.{List}
use native.Mathlib.Numerals.{add-one}
use native.Mathlib.Omega.{arith}
use lib.Dec.{leb}
use borrow.Author.Tests.{le-leb, lt-leb}
use Rattle.std.specs.Prelude.{Option, None, Some}
use Rattle.rules.specs.Walk.{first}
use Rattle.rules.specs.Table.{budget, deadline}
use Rattle.rules.specs.declared.Rule.{Rule}
use Rattle.rules.proofs.First.{first-zero, first_more, first_ext}
use Rattle.theory.specs.Load.{holds}
use Rattle.theory.specs.Task.{task_tick}
use Rattle.theory.specs.Inner.{least_for}
use Rattle.theory.proofs.Tasks.{task_earliest}
use Rattle.task_demand.specs.Inner.{fits_at, in_time, Drawn}
use Rattle.task_demand.proofs.Lists.{fits_is}
use Rattle.task_plain.specs.Inner.{tick_fits}

module _ (curve asks : List ℕ) (c : ℕ) where
  pub tick_fits_lem : (t : ℕ) (b : Bool) → 1 ≤ t → fits_at curve asks c t ≡ b → tick_fits curve asks c t ≡ b
  unfolding tick_fits
  tick_fits_lem t b l e = rw (le-leb 1 t l) e

  pub no_tick_0 : tick_fits curve asks c 0 ≡ false
  unfolding tick_fits
  no_tick_0 = rw (lt-leb 1 0 (omega arith))

  pub from_1 : first (tick_fits curve asks c) 1 ≡ 1
  from_1 = first_more _ 0 (first-zero _) no_tick_0

-- what a walk over the ticks up to d finds, or that it finds none, in time
pub found_in_time : (d t s : ℕ) → t ≤ d → s ≡ t → Some t ≡ in_time d s
unfolding in_time
found_in_time d t s l e = rw (e, le-leb t d l)

pub none_in_time : (test : ℕ → Bool) (d t : ℕ) → t ≤ d + 1 → d + 1 ≤ t → first test t ≡ t → ◌≡◌ {A = Option ℕ} None (in_time d (first test (d + 1)))
unfolding in_time
none_in_time test d t l m e =
    let z : t ≡ d + 1 = omega arith in
    let f : first test (d + 1) ≡ d + 1 = rw z at e in
    rw (f, lt-leb (d + 1) d (omega arith))

pub tick_is : (rule : Rule) (plan ts : List ℕ) (i c d : ℕ) (curve asks : List ℕ) → Drawn rule plan ts i curve asks → c ≡ budget ts i → d ≡ deadline ts i
    → first (tick_fits curve asks c) (d + 1) ≡ task_tick rule plan ts i
unfolding tick_fits holds
tick_is rule plan ts i c d curve asks w ec ed =
    rw (task_earliest ts i (leb 1) (least_for rule plan ts i), ed, add-one (deadline ts i))
    (first_ext (suc (deadline ts i)) _ _ (λ t l. ap (λ (b : Bool). leb 1 t && b) (fits_is ts i rule plan curve asks w c t ec (omega arith))))
