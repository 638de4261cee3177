-- A move one tick beyond a job's x breaks a deadline: that of the first job from there on whose x is its own d − a − C. Assumes nothing.
use Prim.Native.Nat.{ℕ, zero, suc, ◌+◌, ◌-◌, ◌<◌, ◌≤◌, min, max}
use mathlib.Core.Path.{◌≡◌, refl, ◌∙◌}
use mathlib.Core.Bool.{Bool, true, false}
use mathlib.Core.List.{List, [], ◌∷◌}
use mathlib.Core.Logic.{⊎_elim}
use native.Mathlib.Nat.{eq-or-lt_of_le}
use native.Mathlib.Omega.{arith}
use lib.Dec.{eqb}
use lib.ListN.{length}
use borrow.Author.Tests.{eqb-true, eqb-false, lt-ltb, le-ltb}
use Rattle.rules.specs.Walk.{pick, first}
use Rattle.rules.proofs.First.{first-none, first_found}
use Rattle.rules.proofs.Tests.{and_parts}
use Rattle.desk.specs.declared.Job.{Job}
use Rattle.desk.specs.Table.{start, budget, deadline, flex, ends, x_of, right_x}
use Rattle.desk.specs.Places.{shift}
use Rattle.desk.specs.Reason.{late}
use Rattle.desk.proofs.Chain.{Chain}
use Rattle.desk.proofs.Spot.{right_tail}

-- a job's x is all that its own deadline leaves
abbrev pub tight : Job → Bool
tight j = eqb (flex j) (x_of j [])

-- how many stand before the first such
abbrev pub before_tight : List Job → ℕ
before_tight [] = 0
before_tight (j ∷ js) = pick (tight j) 0 (suc (before_tight js))

-- of js, each moved as far as the one before forces it, the first from e on, job k is the first that ends after its deadline
pub record FirstLate (e : ℕ) (js : List Job) (k : ℕ) : Type 0 where
  pub inside : k < length js
  pub broken : late (shift e js) k ≡ true
  pub unbroken : (i : ℕ) → i < k → late (shift e js) i ≡ false

pub breaks_first : (e : ℕ) (js : List Job) (k : ℕ) → FirstLate e js k → first (late (shift e js)) (length js) ≡ k
breaks_first e js k w =
    first_found (late (shift e js)) (length js) k w.inside (first-none (late (shift e js)) k w.unbroken) w.broken

breaks_here : (e : ℕ) (j : Job) (js : List Job) → deadline j < max e (start j) + budget j → FirstLate e (j ∷ js) 0
unfolding late
breaks_here e j js h = record { inside = omega arith; broken = lt-ltb _ _ h; unbroken = λ i g. absurd (omega arith) }

breaks_on : (e : ℕ) (j : Job) (js : List Job) (k : ℕ) → max e (start j) + budget j ≤ deadline j → FirstLate (max e (start j) + budget j) js k
    → FirstLate e (j ∷ js) (suc k)
unfolding late
breaks_on e j js k h w = record { inside = omega (arith, w.inside); broken = w.broken; unbroken = before } where
  before : (i : ℕ) → i < suc k → late (shift e (j ∷ js)) i ≡ false
  before zero g = le-ltb _ _ h
  before (suc i) g = w.unbroken i (omega arith)

min_less : (x p q : ℕ) → x ≡ min p q → (x ≡ p → ⊥) → x < p
min_less x p q u v = ⊎_elim (λ f. absurd (v f)) (λ (f : x < p). f) (eq-or-lt_of_le (let small : min p q ≤ p = omega arith in rw u small))

some_below : (x p : ℕ) → x < p → 0 < p
some_below x p h = omega arith

own_left : (a c d : ℕ) → 0 < d - a - c → a + c + (d - a - c) ≡ d
own_left a c d h = omega arith

next-left : (a c y b : ℕ) → a + c ≤ b → a + c + (y + b - a - c) ≡ y + b
next-left a c y b h = omega arith

beyond_both : (a c d x y b p q : ℕ) → x ≡ min p q → x < p → a + c + p ≡ d → a + c + q ≡ y + b
    → (a + x + 1 + c ≤ d) × (a + x + 1 + c ≡ b + y + 1)
beyond_both a c d x y b p q e h f g = (omega arith, omega arith)

-- where the job's own deadline does not bind, the next one is moved one tick beyond its x
beyond_next : (a c d x y b : ℕ) → x ≡ min (d - a - c) (y + b - a - c) → (x ≡ d - a - c → ⊥) → a + c ≤ b
    → (a + x + 1 + c ≤ d) × (a + x + 1 + c ≡ b + y + 1)
beyond_next a c d x y b e n h =
    let less : x < d - a - c = min_less x (d - a - c) (y + b - a - c) e n in
    beyond_both a c d x y b (d - a - c) (y + b - a - c) e less (own_left a c d (some_below x (d - a - c) less)) (next-left a c y b h)

beyond_own : (a c d x : ℕ) → x ≡ d - a - c → a + c ≤ d → d < a + x + 1 + c
beyond_own a c d x e h = omega arith

end_at : (m a x c : ℕ) → m ≡ a + x + 1 → max m a + c ≡ a + x + 1 + c
end_at m a x c e = omega arith

own_breaks : (m e : ℕ) (j : Job) (js : List Job) → m ≡ start j + flex j + 1 → Chain e (j ∷ js) → tight j ≡ true → FirstLate m (j ∷ js) 0
own_breaks m e j js z g h =
    let own : flex j ≡ deadline j - start j - budget j = eqb-true _ _ h in
    let over : deadline j < start j + flex j + 1 + budget j = beyond_own (start j) (budget j) (deadline j) (flex j) own g.1.in_time in
    breaks_here m j js (omega (arith, end_at m (start j) (flex j) (budget j) z, over))

pub beyond : (m e : ℕ) (j : Job) (js : List Job) → m ≡ start j + flex j + 1 → Chain e (j ∷ js) → right_x (j ∷ js) ≡ true
    → FirstLate m (j ∷ js) (before_tight (j ∷ js))
beyond m e j [] z g r =
    let own : tight j ≡ true = (and_parts (tight j) (right_x []) r).0 in
    rw own (own_breaks m e j [] z g own)
beyond m e j (k ∷ ks) z g r =
    by_tight (tight j) refl (λ y. beyond (max m (start j) + budget j) (ends j) k ks y g.2 (right_tail j (k ∷ ks) r)) where
      by_tight : (b : Bool) → tight j ≡ b
          → (max m (start j) + budget j ≡ start k + flex k + 1 → FirstLate (max m (start j) + budget j) (k ∷ ks) (before_tight (k ∷ ks)))
          → FirstLate m (j ∷ k ∷ ks) (pick b 0 (suc (before_tight (k ∷ ks))))
      by_tight true h more = own_breaks m e j (k ∷ ks) z g h
      by_tight false h more =
          let x : flex j ≡ x_of j (k ∷ ks) = eqb-true _ _ (and_parts _ (right_x (k ∷ ks)) r).0 in
          let two = beyond_next (start j) (budget j) (deadline j) (flex j) (flex k) (start k) x (eqb-false _ _ h) g.2.0 in
          let here = end_at m (start j) (flex j) (budget j) z in
          breaks_on m j (k ∷ ks) (before_tight (k ∷ ks)) (omega (arith, here, two.0)) (more (here ∙ two.1))
