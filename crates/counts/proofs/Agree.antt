-- A lent list held against the plan: number by number, row by row. Assumes nothing.
use Prim.Native.Nat.{ℕ, ◌+◌, ◌-◌, ◌*◌, ◌≤◌, ◌<◌}
use mathlib.Core.Path.{◌≡◌, refl, sym, ap, ◌∙◌}
use mathlib.Core.Logic.{◌⊎◌, inl, inr}
use mathlib.Core.Bool.{Bool, true, false, not}
use mathlib.Core.List.{List}
use native.Mathlib.Nat.{mul-le-mul_right}
use native.Mathlib.Omega.{arith}
use lib.Dec.{eqb}
use lib.ListN.{length, get_or}
use borrow.Author.Tests.{le-ltb, ltb-true, eq-eqb, ne_eqb, not-false}
use Rattle.rules.specs.Walk.{first, fails, some, Every}
use Rattle.rules.proofs.First.{first_more, first_at, some_at, some-none, every_first}
use Rattle.rules.proofs.Sum.{le-or-lt}
use Rattle.rules.specs.declared.Rule.TheVariants.{Own}
use Rattle.theory.specs.Plan.{held}
use Rattle.counts.specs.Counts.{row_of, row_width, agrees_at}
use Rattle.counts.specs.Inner.{differs_at}
use Rattle.counts.proofs.Passes.{count-row, row_end}

-- ---- one number

module _ (plan list : List ℕ) (p : ℕ) (some-p : 0 < p) (k h v row : ℕ) (l : k ≤ length plan) (er : row ≡ row_of plan p) (eh : h ≡ held Own plan p k 0) (ev : v ≡ get_or list (row + k) 0) where
  differs_as : differs_at plan list p k ≡ not (eqb v h)
  unfolding differs_at agrees_at fails
  differs_as = rw (count-row plan p some-p k l, eh, ev, er)

  pub differs_here : ¬ (v ≡ h) → differs_at plan list p k ≡ true
  differs_here n = differs_as ∙ ap not (ne_eqb v h n)

  pub agrees_here : v ≡ h → differs_at plan list p k ≡ false
  agrees_here e = differs_as ∙ ap not (eq-eqb v h e)

-- the row's last number decides where none before it differs
pub differs_last : (plan list : List ℕ) (p : ℕ) → 0 < p → (k h v row : ℕ) → k ≤ length plan → length plan ≤ k → row ≡ row_of plan p → h ≡ held Own plan p k 0 → v ≡ get_or list (row + length plan) 0
    → first (differs_at plan list p) k ≡ k → not (eqb v h) ≡ some (differs_at plan list p) (row_width plan)
differs_last plan list p some-p k h v row l m er eh ev e =
    let q : k ≡ length plan = omega arith in
    sym (some_last (differs_at plan list p) (length plan) (rw q at e) ∙ differs_as plan list p some-p (length plan) h v row (omega arith) er (rw q at eh) ev)
  where
    some_last : (t : ℕ → Bool) (n : ℕ) → first t n ≡ n → some t (n + 1) ≡ t n
    some_last t n e = go (t n) refl
      where
        go : (b : Bool) → t n ≡ b → some t (n + 1) ≡ t n
        go true h = some_at t (n + 1) n (omega arith) h ∙ sym h
        go false h = rw (first_more t n e h) (le-ltb (n + 1) (n + 1) (omega arith)) ∙ sym h

-- ---- row after row

module _ (plan list : List ℕ) (p : ℕ) where
  row_next : row_of plan (p + 1) + row_width plan ≡ (p + 1) * row_width plan
  row_next = row_end (row_width plan) (p + 1) (omega arith)

  pub rows_agree : Every (agrees_at plan list) (p * row_width plan) → some (differs_at plan list (p + 1)) (row_width plan) ≡ false → Every (agrees_at plan list) ((p + 1) * row_width plan)
  unfolding differs_at fails
  rows_agree before e i h = go (le-or-lt (row_of plan (p + 1)) i)
    where
      go : (row_of plan (p + 1) ≤ i) ⊎ (i < row_of plan (p + 1)) → agrees_at plan list i ≡ true
      go (inl l) =
          let q : row_of plan (p + 1) + (i - row_of plan (p + 1)) ≡ i = omega arith in
          let a : differs_at plan list (p + 1) (i - row_of plan (p + 1)) ≡ false = some-none (differs_at plan list (p + 1)) (row_width plan) e _ (omega (arith, row_next)) in
          not-false (agrees_at plan list i) (ap (λ (x : ℕ). not (agrees_at plan list x)) (sym q) ∙ a)
      go (inr l) = let q : p + 1 - 1 ≡ p = omega arith in before i (rw q at l)

  pub rows_differ : (n : ℕ) → p < n → some (differs_at plan list (p + 1)) (row_width plan) ≡ true → some (fails (agrees_at plan list)) (n * row_width plan) ≡ true
  unfolding differs_at
  rows_differ n h e =
      let t = differs_at plan list (p + 1) in
      let l : first t (row_width plan) < row_width plan = ltb-true _ _ e in
      let m : (p + 1) * row_width plan ≤ n * row_width plan = mul-le-mul_right (row_width plan) (omega arith) in
      some_at (fails (agrees_at plan list)) (n * row_width plan) (row_of plan (p + 1) + first t (row_width plan)) (omega (arith, row_next)) (first_at t (row_width plan) l)

pub all_agree : (plan list : List ℕ) (n : ℕ) → Every (agrees_at plan list) n → some (fails (agrees_at plan list)) n ≡ false
all_agree plan list n h = rw (every_first (agrees_at plan list) n h) (le-ltb n n (omega arith))
