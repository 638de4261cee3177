-- One partition's numbers: where they stand, and what a pass over them leaves. Assumes nothing.
use Prim.Native.Nat.{ℕ, suc, ◌+◌, ◌-◌, ◌*◌, ◌/◌, ◌%◌, ◌≤◌, ◌<◌}
use mathlib.Core.Path.{◌≡◌, refl, sym, ap, ◌∙◌}
use mathlib.Core.Logic.{◌⊎◌, inl, inr}
use mathlib.Core.List.{List}
use native.Mathlib.Nat.{zero-add, suc-mul, mod-lt, mod-eq_of_lt, div-eq_of_lt, div-add-mod', mul-add-div_right, mul-add-mod_self_right}
use native.Mathlib.Numerals.{add-one}
use native.Mathlib.Omega.{arith}
use lib.Dec.{ltb, eqb}
use lib.ListN.{length, get_or, set}
use borrow.Author.Tests.{lt-ltb, le-ltb}
use Rattle.rules.specs.Walk.{pick, only}
use Rattle.rules.specs.Inner.{AsNamed}
use Rattle.rules.proofs.Named.{named-turn}
use Rattle.rules.proofs.Sum.{le-or-lt}
use Rattle.rules.specs.declared.Rule.TheVariants.{Own}
use Rattle.theory.specs.Plan.{held}
use Rattle.plan_service.proofs.Turns.{serves_owner, held-turn}
use Rattle.counts.specs.Counts.{row_of, row_width, count_at}
use Rattle.counts.specs.Inner.{Recounted}

-- ---- rows of w numbers

pub row_end : (w p : ℕ) → 0 < p → (p - 1) * w + w ≡ p * w
row_end w p h = let e : suc (p - 1) ≡ p = omega arith in sym (suc-mul (p - 1) w) ∙ ap (λ (x : ℕ). x * w) e

-- number i stands in row p, counted from 1
pub in_row : (w i p : ℕ) → 0 < w → i / w + 1 ≡ p → ((p - 1) * w ≤ i) × (i < p * w)
in_row w i p pos e =
    let q : i / w ≡ p - 1 = omega arith in
    let d : (p - 1) * w + i % w ≡ i = ap (λ (x : ℕ). x * w + i % w) (sym q) ∙ div-add-mod' i w in
    (omega arith, omega (arith, mod-lt i pos, row_end w p (omega arith)))

pub row_is : (w i p : ℕ) → 0 < w → 0 < p → (p - 1) * w ≤ i → i < p * w → i / w + 1 ≡ p
row_is w i p pos h l m =
    let d : (p - 1) * w + (i - (p - 1) * w) ≡ i = omega arith in
    let z : (i - (p - 1) * w) / w ≡ 0 = div-eq_of_lt (omega (arith, row_end w p h)) in
    omega (arith, ap (λ (x : ℕ). x / w) d, mul-add-div_right pos (p - 1) (i - (p - 1) * w))

module _ (plan : List ℕ) (p : ℕ) (some : 0 < p) where
  -- p's count before tick k
  pub count-row : (k : ℕ) → k ≤ length plan → count_at plan (row_of plan p + k) ≡ held Own plan p k 0
  unfolding count_at
  count-row k l =
      let w = row_width plan in
      let z : k / w ≡ 0 = div-eq_of_lt (omega arith) in
      let q : (row_of plan p + k) / w + 1 ≡ p = omega (arith, mul-add-div_right {m = w} (omega arith) (p - 1) k, z) in
      let m : (row_of plan p + k) % w ≡ k = mul-add-mod_self_right (p - 1) w k ∙ mod-eq_of_lt (omega arith) in
      rw (q, m)

-- one tick more
pub count_turn : (plan : List ℕ) (p k h b : ℕ) → k < length plan → h ≡ held Own plan p k 0 → b ≡ only (eqb (get_or plan k 0) p) 1 → h + b ≡ held Own plan p (k + 1) 0
count_turn plan p k h b l eh eb = held-turn Own plan p 0 k k h b (sym (ap (λ (x : ℕ). x % length plan) (zero-add k) ∙ mod-eq_of_lt l)) eh (rw (← serves_owner plan k (get_or plan k 0) l refl) eb)

-- ---- a pass over one row

-- what number i becomes up to the row's end: as it was in front of the row, counted within
abbrev pub recounted : List ℕ → ℕ → List ℕ → ℕ → ℕ
recounted plan p l i = pick (ltb i (row_of plan p)) (get_or l i 0) (count_at plan i)

pub row-none : (plan l : List ℕ) (p : ℕ) → AsNamed (recounted plan p l) (row_of plan p + 0) l l
row-none plan l p = record { as_long = refl; done = λ t h. rw (lt-ltb t (row_of plan p) (omega arith)); rest = λ t h. refl }

module _ (plan before : List ℕ) (p : ℕ) (some : 0 < p) where
  pub row-turn : (k h : ℕ) (cur after : List ℕ) → p * row_width plan ≤ length before → k ≤ length plan → AsNamed (recounted plan p before) (row_of plan p + k) before cur
      → h ≡ held Own plan p k 0 → after ≡ set cur (row_of plan p + k) h → AsNamed (recounted plan p before) (row_of plan p + (k + 1)) before after
  row-turn k h cur after long l w eh ea =
      let e : row_of plan p + k + 1 ≡ row_of plan p + (k + 1) = omega arith in
      let v : h ≡ recounted plan p before (row_of plan p + k) = rw (le-ltb (row_of plan p + k) (row_of plan p) (omega arith)) (eh ∙ sym (count-row plan p some k l)) in
      rw (← e) (named-turn (recounted plan p before) (row_of plan p + k) h before cur after w (omega (arith, row_end (row_width plan) p some)) ea v)

  row_done : (after : List ℕ) → AsNamed (recounted plan p before) (row_of plan p + (length plan + 1)) before after → Recounted plan p before after
  row_done after w = record { as_long = w.as_long; row = row; rest = λ i h. rest i h (le-or-lt (row_of plan p) i) }
    where
      row : (i : ℕ) → i / row_width plan + 1 ≡ p → get_or after i 0 ≡ count_at plan i
      row i e =
          let b = in_row (row_width plan) i p (omega arith) e in
          w.done i (omega (arith, b.1, row_end (row_width plan) p some)) ∙ rw (le-ltb i (row_of plan p) b.0)

      rest : (i : ℕ) → ¬ (i / row_width plan + 1 ≡ p) → (row_of plan p ≤ i) ⊎ (i < row_of plan p) → get_or after i 0 ≡ get_or before i 0
      rest i h (inr l) = w.done i (omega arith) ∙ rw (lt-ltb i (row_of plan p) l)
      rest i h (inl l) = behind (le-or-lt (row_of plan p + (length plan + 1)) i)
        where
          behind : (row_of plan p + (length plan + 1) ≤ i) ⊎ (i < row_of plan p + (length plan + 1)) → get_or after i 0 ≡ get_or before i 0
          behind (inl m) = w.rest i m
          behind (inr m) = absurd (h (row_is (row_width plan) i p (omega arith) some l (omega (arith, row_end (row_width plan) p some))))

  -- the count before the frame's end stands last
  pub row_last : (k h : ℕ) (cur after : List ℕ) → p * row_width plan ≤ length before → k ≤ length plan → length plan ≤ k → AsNamed (recounted plan p before) (row_of plan p + k) before cur
      → h ≡ held Own plan p k 0 → after ≡ set cur (row_of plan p + length plan) h → Recounted plan p before after
  row_last k h cur after long l m w eh ea =
      let e : k ≡ length plan = omega arith in
      row_done after (row-turn (length plan) h cur after long (omega arith) (rw e at w) (rw e at eh) ea)

-- one row after another
pub rows-turn : (plan before cur after : List ℕ) (p : ℕ) → AsNamed (count_at plan) (p * row_width plan) before cur → Recounted plan (p + 1) cur after → AsNamed (count_at plan) ((p + 1) * row_width plan) before after
rows-turn plan before cur after p w r = record {
  as_long = r.as_long ∙ w.as_long;
  done = λ t h. done t h (le-or-lt (p * row_width plan) t);
  rest = λ t h. r.rest t (λ e. absurd (omega (arith, (in_row (row_width plan) t (p + 1) (omega arith) e).1))) ∙ w.rest t (omega (arith, next));
}
  where
    one : p + 1 - 1 ≡ p
    one = omega arith

    next : p * row_width plan + row_width plan ≡ (p + 1) * row_width plan
    next = sym (ap (λ (x : ℕ). x * row_width plan) (add-one p) ∙ suc-mul p (row_width plan))

    done : (t : ℕ) → t < (p + 1) * row_width plan → (p * row_width plan ≤ t) ⊎ (t < p * row_width plan) → get_or after t 0 ≡ count_at plan t
    done t h (inl l) = r.row t (row_is (row_width plan) t (p + 1) (omega arith) (omega arith) (rw one l) h)
    done t h (inr l) =
        r.rest t (λ e. let b : (p + 1 - 1) * row_width plan ≤ t = (in_row (row_width plan) t (p + 1) (omega arith) e).0 in let b' : p * row_width plan ≤ t = rw one at b in absurd (omega arith))
        ∙ w.done t l
