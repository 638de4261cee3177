-- One tick's owner changed: which counts that moves, and the list that is left. Assumes nothing.
use Prim.Native.Nat.{ℕ, zero, suc, ◌+◌, ◌*◌, ◌/◌, ◌%◌, ◌≤◌, ◌<◌}
use mathlib.Core.Path.{◌≡◌, refl, sym, ap, ◌∙◌}
use mathlib.Core.Logic.{◌⊎◌, inl, inr}
use mathlib.Core.Bool.{true, false, ◌&&◌}
use mathlib.Core.List.{List, ◌++◌}
use native.Mathlib.Nat.{mod-lt, mul-le-mul_right}
use native.Mathlib.Numerals.{add-one}
use native.Mathlib.Decide.{ℕ_discrete}
use native.Mathlib.Omega.{arith}
use lib.Dec.{ltb, eqb}
use lib.ListN.{length, get_or, set, drop, length-set}
use lib.Seq.{get_or-set_same, get_or-set_other}
use borrow.Author.Tests.{lt-ltb, le-ltb, ltb-true, leb-true, eqb-true, ne_eqb}
use Rattle.rules.specs.Walk.{only}
use Rattle.rules.specs.Table.{partitions}
use Rattle.rules.specs.declared.Refusal.TheVariants.{Asked, Beyond}
use Rattle.std.specs.Prelude.{Ok}
use Rattle.rules.proofs.Named.{named-list}
use Rattle.rules.proofs.Sum.{le-or-lt, only_false}
use Rattle.rules.proofs.Tests.{and_none}
use Rattle.rules.specs.declared.Rule.TheVariants.{Own}
use Rattle.theory.specs.Plan.{service, held}
use Rattle.theory.proofs.Plan.{held-zero}
use Rattle.counts.specs.Counts.{row_width, count_at, needed, running_counts, agrees_at, change_of}
use Rattle.counts.specs.Inner.{Recounted}
use Rattle.counts.specs.Theorems.{Planned, Counted}
use Rattle.counts.proofs.Passes.{in_row, count_turn}
use Rattle.counts.proofs.Orders.{tested, called}

module _ (plan : List ℕ) (tick new : ℕ) (inside : tick < length plan) where
  abbrev old : ℕ
  old = get_or plan tick 0

  abbrev plan' : List ℕ
  plan' = set plan tick new

  -- one tick more, before and after
  more : (l : List ℕ) (p k : ℕ) → k < length l → held Own l p (suc k) 0 ≡ held Own l p k 0 + only (eqb (get_or l k 0) p) 1
  more l p k h = ap (λ (x : ℕ). held Own l p x 0) (sym (add-one k)) ∙ sym (count_turn l p k (held Own l p k 0) (only (eqb (get_or l k 0) p) 1) h refl refl)

  more_new : (p k : ℕ) → k < length plan → held Own plan' p (suc k) 0 ≡ held Own plan' p k 0 + only (eqb (get_or plan' k 0) p) 1
  more_new p k h = more plan' p k (omega (arith, length-set plan tick new))

  -- "only the later counts of the old and the new owner", each by one
  pub moved : (p k : ℕ) → k ≤ length plan → held Own plan' p k 0 + only (ltb tick k && eqb old p) 1 ≡ held Own plan p k 0 + only (ltb tick k && eqb new p) 1
  moved p zero l = rw (le-ltb tick 0 (omega arith), held-zero (service Own plan') p 0, held-zero (service Own plan) p 0)
  moved p (suc k) l = go (le-or-lt tick k) (ℕ_discrete k tick) (moved p k (omega arith))
    where
      go : (tick ≤ k) ⊎ (k < tick) → Dec (k ≡ tick) → held Own plan' p k 0 + only (ltb tick k && eqb old p) 1 ≡ held Own plan p k 0 + only (ltb tick k && eqb new p) 1
          → held Own plan' p (suc k) 0 + only (ltb tick (suc k) && eqb old p) 1 ≡ held Own plan p (suc k) 0 + only (ltb tick (suc k) && eqb new p) 1
      go m (yes e) ih =
          let ih' : held Own plan' p k 0 + only (false && eqb old p) 1 ≡ held Own plan p k 0 + only (false && eqb new p) 1 = rw (le-ltb tick k (omega arith)) at ih in
          let a : get_or plan' k 0 ≡ new = rw e (get_or-set_same plan tick new 0 inside) in
          let b : get_or plan k 0 ≡ old = rw e in
          rw (lt-ltb tick (suc k) (omega arith), more_new p k (omega arith), more plan p k (omega arith), a, b) (omega (arith, ih'))
      go (inl m) (no e) ih =
          let ih' : held Own plan' p k 0 + only (true && eqb old p) 1 ≡ held Own plan p k 0 + only (true && eqb new p) 1 = rw (lt-ltb tick k (omega arith)) at ih in
          rw (lt-ltb tick (suc k) (omega arith), more_new p k (omega arith), more plan p k (omega arith), get_or-set_other plan tick k new 0 e) (omega (arith, ih'))
      go (inr m) (no e) ih =
          let ih' : held Own plan' p k 0 + only (false && eqb old p) 1 ≡ held Own plan p k 0 + only (false && eqb new p) 1 = rw (le-ltb tick k (omega arith)) at ih in
          rw (le-ltb tick (suc k) (omega arith), more_new p k (omega arith), more plan p k (omega arith), get_or-set_other plan tick k new 0 e) (omega (arith, ih'))

  -- a row of neither owner stays
  same_row : (p k : ℕ) → k ≤ length plan → ¬ (old ≡ p) → ¬ (new ≡ p) → held Own plan' p k 0 ≡ held Own plan p k 0
  same_row p k l ho hn =
      omega (arith, moved p k l, only_false _ 1 (and_none (ltb tick k) (eqb old p) (ne_eqb old p ho)), only_false _ 1 (and_none (ltb tick k) (eqb new p) (ne_eqb new p hn)))

  below : (i : ℕ) → i % row_width plan ≤ length plan
  below i = let l : i % row_width plan < row_width plan = mod-lt i (omega arith) in omega arith

  same_count : (i : ℕ) → ¬ (i / row_width plan + 1 ≡ old) → ¬ (i / row_width plan + 1 ≡ new) → count_at plan' i ≡ count_at plan i
  unfolding count_at
  same_count i ho hn = rw (length-set plan tick new) (same_row (i / row_width plan + 1) (i % row_width plan) (below i) (λ e. ho (sym e)) (λ e. hn (sym e)))

  -- both owners' rows counted again: the changed plan's list
  pub recounts : (ps list between after : List ℕ) → Counted plan ps list → old ≤ partitions ps → new ≤ partitions ps
      → Recounted plan' old list between → Recounted plan' new between after → after ≡ running_counts plan' ps ++ drop (needed plan ps) list
  unfolding agrees_at
  recounts ps list between after g lo ln v w =
      let e : needed plan' ps ≡ needed plan ps = rw (length-set plan tick new) in
      rw e (named-list (count_at plan') (needed plan ps) list after g.long (record {
        as_long = w.as_long ∙ v.as_long;
        done = λ i h. done i h (ℕ_discrete (i / row_width plan' + 1) new) (ℕ_discrete (i / row_width plan' + 1) old);
        rest = λ i h. w.rest i (past i h new ln) ∙ v.rest i (past i h old lo);
      }))
    where
      wide : row_width plan' ≡ row_width plan
      wide = rw (length-set plan tick new)

      past : (i : ℕ) → needed plan ps ≤ i → (p : ℕ) → p ≤ partitions ps → ¬ (i / row_width plan' + 1 ≡ p)
      past i h p l e =
          let a : i < p * row_width plan = (in_row (row_width plan) i p (omega arith) (rw wide at e)).1 in
          let b : p * row_width plan ≤ needed plan ps = mul-le-mul_right (row_width plan) l in
          absurd (omega arith)

      done : (i : ℕ) → i < needed plan ps → Dec (i / row_width plan' + 1 ≡ new) → Dec (i / row_width plan' + 1 ≡ old) → get_or after i 0 ≡ count_at plan' i
      done i h (yes e) d = w.row i e
      done i h (no n) (yes e) = w.rest i n ∙ v.row i e
      done i h (no n) (no o) = w.rest i n ∙ v.rest i o ∙ eqb-true _ _ (g.counts i h) ∙ sym (same_count i (rw wide at o) (rw wide at n))

-- ---- what an accepted call says

pub record Changeable (plan ps list : List ℕ) (tick new : ℕ) : Type 0 where
  pub plans : Planned plan ps
  pub list_is : Counted plan ps list
  pub new_owner : new ≤ partitions ps
  pub old_owner : get_or plan tick 0 ≤ partitions ps
  pub inside : tick < length plan

pub changeable : (plan ps list : List ℕ) (tick new : ℕ) → change_of plan ps list tick new ≡ (Ok tt) → Changeable plan ps list tick new
unfolding change_of
changeable plan ps list tick new e =
    let g = called plan ps list _ true _ e in
    let t : tick < length plan = ltb-true _ _ (tested _ (Beyond 0) g.insides) in
    record {
      plans = g.plans;
      list_is = g.list_is;
      new_owner = leb-true _ _ (tested _ (Asked 0) g.names);
      old_owner = leb-true _ _ (g.plans.ticks tick t);
      inside = t;
    }

-- an owner's numbers stand within the list
pub row-long : (plan ps list : List ℕ) (p : ℕ) → Counted plan ps list → p ≤ partitions ps → p * row_width plan ≤ length list
row-long plan ps list p g l = let a : p * row_width plan ≤ needed plan ps = mul-le-mul_right (row_width plan) l in omega (arith, g.long)
