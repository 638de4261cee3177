-- The rows are exactly the scheduling points, each once, in rising order. Assumes nothing.
use Prim.Native.Nat.{ℕ, zero, suc, ◌+◌, ◌*◌, ◌≤◌, ◌<◌}
use mathlib.Core.Path.{◌≡◌, refl, sym, subst, ◌∙◌}
use mathlib.Core.Logic.{◌⊎◌, inl, inr}
use mathlib.Core.Bool.{Bool, true, false, true≢false}
use mathlib.Core.List.{List, ◌++◌, append-nil}
use native.Mathlib.Numerals.{add-one}
use native.Mathlib.Decide.{ℕ_discrete}
use native.Mathlib.Omega.{arith}
use lib.ListN.{length, get_or, get_or-append}
use lib.Seq.{get_or-append-add}
use Rattle.rules.specs.Limits.{row_width}
use Rattle.rules.specs.Walk.{count, gathered}
use Rattle.rules.specs.Table.{partition}
use Rattle.rules.specs.declared.Rule.{Rule}
use Rattle.rules.proofs.Sum.{le-or-lt, only_true, only_false, count-zero, count_more}
use Rattle.theory.specs.Plan.{least, worst_start}
use Rattle.theory.specs.Load.{demand, point}
use Rattle.theory.specs.Task.{task_load}
use Rattle.task_page.specs.Page.{row_of, row_at}
use Rattle.task_page.proofs.Rows.{rows-length}

module _ (rule : Rule) (plan ts : List ℕ) (i : ℕ) where
  abbrev rows : ℕ → List ℕ
  rows = gathered (row_at rule plan ts i)

  abbrev points : ℕ → ℕ
  points = count (point (task_load ts) i)

  -- the row of t stands at place k of a list
  pub record At (t k : ℕ) (l : List ℕ) : Type 0 where
    pub first : get_or l (row_width * k) 0 ≡ t
    pub second : get_or l (row_width * k + 1) 0 ≡ demand (task_load ts) i t
    pub third : get_or l (row_width * k + 2) 0 ≡ least rule plan (partition ts i) t
    pub fourth : get_or l (row_width * k + 3) 0 ≡ worst_start rule plan (partition ts i) t

  pub at_front : (t k : ℕ) (l r : List ℕ) → row_width * k + 3 < length l → At t k l → At t k (l ++ r)
  at_front t k l r h a = record {
    first = get_or-append l r 0 (row_width * k) (omega arith) ∙ a.first;
    second = get_or-append l r 0 (row_width * k + 1) (omega arith) ∙ a.second;
    third = get_or-append l r 0 (row_width * k + 2) (omega arith) ∙ a.third;
    fourth = get_or-append l r 0 (row_width * k + 3) h ∙ a.fourth;
  }

  at_end : (t k : ℕ) (l : List ℕ) → length l ≡ row_width * k → At t k (l ++ row_of rule plan ts i t)
  unfolding row_of
  at_end t k l e =
      let z : length l + 0 ≡ row_width * k = omega arith in
      record {
        first = subst (λ (m : ℕ). get_or (l ++ row_of rule plan ts i t) m 0 ≡ t) z (get_or-append-add l (row_of rule plan ts i t) 0 0);
        second = rw (← e) (get_or-append-add l (row_of rule plan ts i t) 1 0);
        third = rw (← e) (get_or-append-add l (row_of rule plan ts i t) 2 0);
        fourth = rw (← e) (get_or-append-add l (row_of rule plan ts i t) 3 0);
      }

  pub record Listed (n : ℕ) : Type 0 where
    pub row : (k : ℕ) → k < points n → (t : ℕ) × (t < n) × (point (task_load ts) i t ≡ true) × At t k (rows n)
    pub each : (t : ℕ) → t < n → point (task_load ts) i t ≡ true → (k : ℕ) × (k < points n) × (get_or (rows n) (row_width * k) 0 ≡ t)
    pub rising : (j k : ℕ) → j < k → k < points n → get_or (rows n) (row_width * j) 0 < get_or (rows n) (row_width * k) 0

  none_more : (n : ℕ) → point (task_load ts) i n ≡ false → (rows (suc n) ≡ rows n) × (points (suc n) ≡ points n)
  unfolding gathered row_at
  none_more n e = (rw e (append-nil (rows n)), rw (← add-one n, count_more (point (task_load ts) i) n, e, only_false false 1 refl) (omega arith))

  one_more : (n : ℕ) → point (task_load ts) i n ≡ true → (rows (suc n) ≡ rows n ++ row_of rule plan ts i n) × (points (suc n) ≡ points n + 1)
  unfolding gathered row_at
  one_more n e = (rw e, rw (← add-one n, count_more (point (task_load ts) i) n, e, only_true true 1 refl))

  module _ (n : ℕ) (w : Listed n) where
    same : point (task_load ts) i n ≡ false → Listed (suc n)
    same e =
        let m = none_more n e in
        record {
          row = λ k l.
              let r = w.row k (omega (arith, m.1)) in
              (r.0, omega (arith, r.1), r.2, subst (λ (x : List ℕ). At r.0 k x) (sym m.0) r.3);
          each = λ t l g. at t l g (ℕ_discrete t n);
          rising = λ j k l h. rw m.0 (w.rising j k l (omega (arith, m.1)));
        }
      where
        at : (t : ℕ) → t < suc n → point (task_load ts) i t ≡ true → Dec (t ≡ n) → (k : ℕ) × (k < points (suc n)) × (get_or (rows (suc n)) (row_width * k) 0 ≡ t)
        at t l g (yes z) = absurd (true≢false (sym (rw z at g) ∙ e))
        at t l g (no z) =
            let m = none_more n e in
            let r = w.each t (omega arith) g in
            (r.0, omega (arith, r.1, m.1), rw m.0 r.2)

    more : point (task_load ts) i n ≡ true → Listed (suc n)
    more e = record {
      row = λ k l. row_at_lem k (le-or-lt (points n) k) (omega (arith, (one_more n e).1));
      each = λ t l g. each_at t l g (ℕ_discrete t n);
      rising = λ j k l h. rises j k l (le-or-lt (points n) k) (omega (arith, (one_more n e).1));
    }
      where
        old : (k : ℕ) → k < points n → (t : ℕ) × (t < n) × (point (task_load ts) i t ≡ true) × At t k (rows (suc n))
        old k h =
            let r = w.row k h in (
              r.0,
              r.1,
              r.2,
              subst (λ (x : List ℕ). At r.0 k x) (sym (one_more n e).0) (at_front r.0 k (rows n) (row_of rule plan ts i n) (omega (arith, rows-length rule plan ts i n)) r.3),
            )

        new : (k : ℕ) → k ≡ points n → At n k (rows (suc n))
        new k z = subst (λ (x : List ℕ). At n k x) (sym (one_more n e).0) (at_end n k (rows n) (rw z (rows-length rule plan ts i n)))

        row_at_lem : (k : ℕ) → (points n ≤ k) ⊎ (k < points n) → k < points n + 1 → (t : ℕ) × (t < suc n) × (point (task_load ts) i t ≡ true) × At t k (rows (suc n))
        row_at_lem k (inl h) l = (n, omega arith, e, new k (omega arith))
        row_at_lem k (inr h) l = let r = old k h in (r.0, omega (arith, r.1), r.2, r.3)

        each_at : (t : ℕ) → t < suc n → point (task_load ts) i t ≡ true → Dec (t ≡ n) → (k : ℕ) × (k < points (suc n)) × (get_or (rows (suc n)) (row_width * k) 0 ≡ t)
        each_at t l g (yes z) = (points n, omega (arith, (one_more n e).1), (new (points n) refl).first ∙ sym z)
        each_at t l g (no z) =
            let r = w.each t (omega arith) g in (
              r.0,
              omega (arith, r.1, (one_more n e).1),
              rw (one_more n e).0 (get_or-append (rows n) (row_of rule plan ts i n) 0 (row_width * r.0) (omega (arith, r.1, rows-length rule plan ts i n)) ∙ r.2),
            )

        kept : (k : ℕ) → k < points n → get_or (rows (suc n)) (row_width * k) 0 ≡ get_or (rows n) (row_width * k) 0
        kept k h = rw (one_more n e).0 (get_or-append (rows n) (row_of rule plan ts i n) 0 (row_width * k) (omega (arith, rows-length rule plan ts i n)))

        rises : (j k : ℕ) → j < k → (points n ≤ k) ⊎ (k < points n) → k < points n + 1 → get_or (rows (suc n)) (row_width * j) 0 < get_or (rows (suc n)) (row_width * k) 0
        rises j k l (inl h) g =
            let r = old j (omega arith) in
            let a : get_or (rows (suc n)) (row_width * j) 0 ≡ r.0 = r.3.first in
            let b : get_or (rows (suc n)) (row_width * k) 0 ≡ n = (new k (omega arith)).first in
            rw (a, b) r.1
        rises j k l (inr h) g = rw (kept j (omega arith), kept k h) (w.rising j k l h)

  pub listed : (n : ℕ) → Listed n
  listed zero = record {
    row = λ k l. absurd (omega (arith, count-zero (point (task_load ts) i)));
    each = λ t l g. absurd (omega arith);
    rising = λ j k l h. absurd (omega (arith, count-zero (point (task_load ts) i)));
  }
  listed (suc n) = by (point (task_load ts) i n) refl (listed n)
    where
      by : (b : Bool) → point (task_load ts) i n ≡ b → Listed n → Listed (suc n)
      by true e w = more n w e
      by false e w = same n w e
