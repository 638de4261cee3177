-- The rows of the page, by the lists of a task. Assumes nothing.
use Prim.Native.Nat.{ℕ, zero, suc, ◌+◌, ◌*◌, ◌^◌, ◌≤◌, ◌<◌}
use mathlib.Core.Path.{◌≡◌, refl, sym, ◌∙◌}
use mathlib.Core.Bool.{Bool, true, false}
use mathlib.Core.List.{List, [], ◌∷◌}
use native.Mathlib.Nat.{mul-le-mul_right}
use native.Mathlib.Numerals.{add-one}
use native.Mathlib.Omega.{arith}
use lib.ListN.{length, get_or, length-append}
use borrow.Author.Tests.{le-leb}
use Rattle.rules.specs.Limits.{longest, most_tasks, row_width}
use Rattle.rules.specs.Walk.{pick, only, count, gathered}
use Rattle.rules.proofs.First.{gathered-zero, gathered_more}
use Rattle.rules.proofs.Sum.{count-zero, count_more, count-le}
use Rattle.output.specs.Put.{Put}
use Rattle.output.proofs.Put.{put_none}
use Rattle.rules.specs.Table.{partition, budget, deadline}
use Rattle.rules.specs.declared.Rule.{Rule}
use Rattle.theory.specs.Plan.{least, worst_start}
use Rattle.theory.specs.Load.{demand, point}
use Rattle.theory.specs.Task.{task_load}
use Rattle.task_demand.specs.Inner.{InOrder}
use Rattle.task_demand.proofs.Asking.{all_small}
use Rattle.task_demand.proofs.Lists.{demand_is}
use Rattle.task_points.specs.Inner.{point_at}
use Rattle.task_points.proofs.Points.{points_are}
use Rattle.task_page.specs.Page.{row_of, row_at, rows_of}
use Rattle.task_page.specs.Inner.{point_in, Ready}

module _ (rule : Rule) (plan ts : List ℕ) (i : ℕ) (curve asks : List ℕ) (w : Ready rule plan ts i curve asks) where
  own : InOrder ts i
  own = w.judgeable.in_order i (omega arith)

  pub in_lists : (t d : ℕ) → d ≡ deadline ts i → t ≤ d → (t ≤ longest) × (t < length curve) × (t < length asks)
  in_lists t d e l = (omega (arith, own.in_period, own.short), omega (arith, w.drawn.long), omega (arith, w.drawn.asks_long))

  pub point_in_is : (t d : ℕ) → d ≡ deadline ts i → t ≤ d → point_in asks d t ≡ point (task_load ts) i t
  unfolding point_in
  point_in_is t d e l = rw e (points_are rule plan ts i curve asks w.judgeable w.drawn t (omega arith))

  module _ (t d : ℕ) (ed : d ≡ deadline ts i) (l : t ≤ d) where
    pub needs_is : (c a : ℕ) → c ≡ budget ts i → a ≡ get_or asks t 0 → c + a ≡ demand (task_load ts) i t
    needs_is c a ec ea = rw (ec, ea, w.drawn.asked_is t (omega arith)) (sym (demand_is ts i t))

    pub has_is : (h : ℕ) → h ≡ get_or curve t 0 → h ≡ least rule plan (partition ts i) t
    has_is h e = e ∙ w.drawn.least_is t (omega arith)

    -- so that a demand fits into 32 bits
    pub needs_small : (c a : ℕ) → c ≡ budget ts i → a ≡ get_or asks t 0 → c + a < 2 ^ 32
    needs_small c a ec ea =
        let below : i ≤ most_tasks = omega (arith, w.judgeable.few) in
        let few : i * (2 * longest) ≤ most_tasks * (2 * longest) = mul-le-mul_right (2 * longest) below in
        let small = all_small ts (partition ts i) t i (λ j h. w.judgeable.in_order j (omega arith)) (in_lists t d ed l).0 in
        omega (arith, ec, ea, w.drawn.asked_is t (omega arith), small, few, own.in_time, own.in_period, own.short)

    module _ (one : 1 ≤ t) (b : Bool) (eb : b ≡ point_at asks d t) where
      point_here : b ≡ point (task_load ts) i t
      unfolding point_in
      point_here = let z = point_in_is t d ed l in eb ∙ rw (le-leb 1 t one) at z

      pub row_is : (needs has start : ℕ) → b ≡ true → needs ≡ demand (task_load ts) i t → has ≡ least rule plan (partition ts i) t → start ≡ worst_start rule plan (partition ts i) t
          → t ∷ needs ∷ has ∷ start ∷ [] ≡ row_at rule plan ts i t
      unfolding row_at row_of
      row_is needs has start e en eh es = rw (← point_here, e, en, eh, es)

      pub row-none : b ≡ false → [] ≡ row_at rule plan ts i t
      unfolding row_at
      row-none e = rw (← point_here, e)

-- ---- the rows one behind the other

module _ (rule : Rule) (plan ts : List ℕ) (i : ℕ) where
  no_row_0 : row_at rule plan ts i 0 ≡ []
  unfolding row_at point
  no_row_0 = refl

  row-length : (t : ℕ) → length (row_at rule plan ts i t) ≡ row_width * only (point (task_load ts) i t) 1
  unfolding row_at row_of only
  row-length t = go (point (task_load ts) i t)
    where
      go : (b : Bool) → length (pick b (row_of rule plan ts i t) []) ≡ row_width * only b 1
      go true = refl
      go false = refl

  -- four numbers for each point
  pub rows-length : (n : ℕ) → length (gathered (row_at rule plan ts i) n) ≡ row_width * count (point (task_load ts) i) n
  unfolding gathered
  rows-length zero = rw (count-zero (point (task_load ts) i)) (omega arith)
  rows-length (suc n) =
      rw (length-append (gathered (row_at rule plan ts i) n) (row_at rule plan ts i n), rows-length n, row-length n, ← add-one n, count_more (point (task_load ts) i) n) (omega arith)

  pub rows_few : {l o : List ℕ} {at r : ℕ} (n : ℕ) → Put l at (gathered (row_at rule plan ts i) n) r o → r ≤ at + row_width * n
  rows_few n p = omega (arith, p.place, rows-length n, count-le (point (task_load ts) i) n)

  pub rows_none : (l : List ℕ) (at : ℕ) → Put l at (gathered (row_at rule plan ts i) 1) at l
  rows_none l at = rw (gathered_more (row_at rule plan ts i) 0, gathered-zero (row_at rule plan ts i), no_row_0) (put_none l at)

  pub rows_all : {l o : List ℕ} {at r : ℕ} (t d : ℕ) → t ≡ d + 1 → d ≡ deadline ts i → Put l at (gathered (row_at rule plan ts i) t) r o → Put l at (rows_of rule plan ts i) r o
  unfolding rows_of
  rows_all t d et ed p = rw (← add-one (deadline ts i), ← ed, ← et) p
