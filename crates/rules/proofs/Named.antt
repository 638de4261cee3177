-- What a pass over a lent output leaves turn by turn, and how passes follow one another; numbers written out. Assumes nothing.
use Prim.Native.Nat.{ℕ, zero, suc, ◌+◌, ◌-◌, ◌≤◌, ◌<◌}
use mathlib.Core.Path.{◌≡◌, refl, sym, ap, ◌∙◌}
use mathlib.Core.Logic.{◌⊎◌, inl, inr}
use mathlib.Core.List.{List, ◌++◌}
use native.Mathlib.Decide.{ℕ_discrete}
use native.Mathlib.Omega.{arith}
use lib.ListN.{length, get_or, set, drop, length-set, length-append, length-drop, get_or-append, get_or-eq_default}
use lib.Seq.{get_or-set_same, get_or-set_other, get_or-drop, get_or-append-add, ext_get_or}
use Rattle.rules.specs.Walk.{listed}
use Rattle.rules.specs.Inner.{AsNamed}
use Rattle.rules.proofs.Sum.{le-or-lt}

-- ---- numbers written out

pub listed-length : (o : ℕ → ℕ) (n : ℕ) → length (listed o n) ≡ n
unfolding listed
listed-length o zero = refl
listed-length o (suc n) = ap suc (listed-length (λ k. o (suc k)) n)

pub listed_at : (o : ℕ → ℕ) (n t : ℕ) → t < n → get_or (listed o n) t 0 ≡ o t
unfolding listed
listed_at o zero t h = absurd (omega arith)
listed_at o (suc n) zero h = refl
listed_at o (suc n) (suc t) h = listed_at (λ k. o (suc k)) n t (omega arith)

pub listed_past : (o : ℕ → ℕ) (n t : ℕ) → n ≤ t → get_or (listed o n) t 0 ≡ 0
listed_past o n t h = get_or-eq_default (listed o n) 0 {n = t} (omega (arith, listed-length o n))

-- ---- a pass

pub named_none : (o : ℕ → ℕ) (l : List ℕ) → AsNamed o 0 l l
named_none o l = record { as_long = refl; done = λ t h. absurd (omega arith); rest = λ t h. refl }

-- its turn at t
pub named-turn : (o : ℕ → ℕ) (t v : ℕ) (before cur after : List ℕ) → AsNamed o t before cur → t < length before → after ≡ set cur t v → v ≡ o t → AsNamed o (t + 1) before after
named-turn o t v before cur after w l e f =
    let long : length cur ≡ length before = w.as_long in
    rw e (record {
      as_long = length-set cur t v ∙ long;
      done = λ u h. at u h (ℕ_discrete u t);
      rest = λ u h. get_or-set_other cur t u v 0 (λ z. absurd (omega arith)) ∙ w.rest u (omega arith);
    })
  where
    at : (u : ℕ) → u < t + 1 → Dec (u ≡ t) → get_or (set cur t v) u 0 ≡ o u
    at u h (yes z) = rw z (get_or-set_same cur t v 0 (omega (arith, w.as_long)) ∙ f)
    at u h (no z) = get_or-set_other cur t u v 0 z ∙ w.done u (omega arith)

-- the pass ran to its end
pub named_end : (o : ℕ → ℕ) (t h : ℕ) (before after : List ℕ) → t ≤ h → h ≤ t → AsNamed o t before after → AsNamed o h before after
named_end o t h before after l g w = let e : t ≡ h = omega arith in rw e at w

-- another namer that agrees on the first h numbers
pub named_as : (o o' : ℕ → ℕ) (h : ℕ) (before after : List ℕ) → ((t : ℕ) → t < h → o t ≡ o' t) → AsNamed o h before after → AsNamed o' h before after
named_as o o' h before after e w = record { as_long = w.as_long; done = λ t l. w.done t l ∙ e t l; rest = w.rest }

-- one pass after another
pub named_then : (o o' : ℕ → ℕ) (h : ℕ) (before cur after : List ℕ) → AsNamed o h before cur → AsNamed o' h cur after → AsNamed o' h before after
named_then o o' h before cur after v w = record { as_long = w.as_long ∙ v.as_long; done = w.done; rest = λ t l. w.rest t l ∙ v.rest t l }

-- what a pass left, as it stands
pub named_self : (o : ℕ → ℕ) (h : ℕ) (before after : List ℕ) → AsNamed o h before after → AsNamed o h after after
named_self o h before after w = record { as_long = refl; done = w.done; rest = λ t l. refl }

-- new numbers in front leave what stands behind them
behind_new : (new old : List ℕ) (n t : ℕ) → length new ≡ n → n ≤ t → get_or (new ++ drop n old) t 0 ≡ get_or old t 0
behind_new new old n t m l =
    let e : t ≡ length new + (t - n) = omega arith in
    let s : n + (t - n) ≡ t = omega arith in
    ap (λ (x : ℕ). get_or (new ++ drop n old) x 0) e ∙ get_or-append-add new (drop n old) (t - n) 0 ∙ get_or-drop n old (t - n) 0 ∙ ap (λ (x : ℕ). get_or old x 0) s

-- what new numbers leave of an output behind them
pub new_tail : (new old o : List ℕ) (n : ℕ) → o ≡ new ++ drop n old → length new ≡ n → n ≤ length old → (length o ≡ length old) × ((i : ℕ) → n ≤ i → get_or o i 0 ≡ get_or old i 0)
new_tail new old o n e m l = (long, λ i h. ap (λ (x : List ℕ). get_or x i 0) e ∙ behind_new new old n i m h)
  where
    long : length o ≡ length old
    long = let z : length o ≡ length new + length (drop n old) = ap length e ∙ length-append new (drop n old) in omega (arith, z, length-drop n old)

-- all that is left is determined
pub named-list : (o : ℕ → ℕ) (h : ℕ) (before after : List ℕ) → h ≤ length before → AsNamed o h before after → after ≡ listed o h ++ drop h before
named-list o h before after l w =
    let n : length (listed o h) ≡ h = listed-length o h in
    let long : length after ≡ length before = w.as_long in
    let total : length (listed o h ++ drop h before) ≡ length before = simp (length-append, length-drop) (omega arith) in
    ext_get_or 0 after (listed o h ++ drop h before) (long ∙ sym total) (λ t g. at t (le-or-lt h t))
  where
    at : (t : ℕ) → (h ≤ t) ⊎ (t < h) → get_or after t 0 ≡ get_or (listed o h ++ drop h before) t 0
    at t (inr g) = w.done t g ∙ sym (get_or-append (listed o h) (drop h before) 0 t (omega (arith, listed-length o h)) ∙ listed_at o h t g)
    at t (inl g) = w.rest t g ∙ sym (behind_new (listed o h) before h t (listed-length o h) g)
