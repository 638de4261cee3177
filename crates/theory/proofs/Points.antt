-- It is enough to try the scheduling points, of any competitors, and the first one that holds is the smallest; so is the first tick. Assumes nothing.
use mathlib.Core.Path.{◌≡◌, refl, sym, ◌∙◌}
use mathlib.Core.Logic.{◌⊎◌, inl, inr, ◌↔◌}
use mathlib.Core.Bool.{Bool, true, false, true≢false, ◌&&◌, ◌||◌}
use Prim.Native.Nat.{ℕ, zero, suc, ◌+◌, ◌-◌, ◌*◌, ◌%◌, ◌≤◌, ◌<◌}
use native.Mathlib.Nat.{mul-le-mul_left, mul-suc}
use native.Mathlib.Numerals.{add-one}
use native.Mathlib.Omega.{arith}
use lib.Dec.{T, eqb, ltb, leb}
use borrow.Author.Tests.{leb-true, leb-false, le-leb, lt-ltb, le-ltb, eq-eqb, eqb-true}
use Rattle.rules.specs.Walk.{only, some, sum, round_up}
use Rattle.rules.proofs.First.{first-le, first_at, first-upto, first-none, some_at, some-done}
use Rattle.rules.proofs.Sum.{only-le, sum-le, sum_lt}
use Rattle.rules.proofs.Round.{round_mono, round_multiple, round_due, round_suc}
use Rattle.rules.proofs.Tests.{to_T, of_T, and_parts, and_intro, or_left, or_right, any_or_none}
use Rattle.theory.specs.Load.{Load, asked, demand, last_point, Passes, multiple, point, holds, earliest, first_point, first_tick}
use Rattle.theory.specs.Theorems.{PointSmallest, TickSmallest, TickAtMostPoint}
use Rattle.theory.specs.Generality.{LoadPoints}

module _ (L : Load) (i : ℕ) where
  abbrev end : ℕ
  end = last_point L i

  point_range : (t : ℕ) → point L i t ≡ true → (1 ≤ t) × (t ≤ end)
  unfolding point
  point_range t e =
      let a = and_parts (leb 1 t && leb t end) _ e in
      let b = and_parts (leb 1 t) (leb t end) a.0 in
      (leb-true 1 t b.0, leb-true t end b.1)

  point_in_lem : (t : ℕ) → 1 ≤ t → t ≤ end → (eqb t end || some (multiple L i t) i) ≡ true → point L i t ≡ true
  unfolding point
  point_in_lem t l u e = and_intro (leb 1 t && leb t end) _ (and_intro (leb 1 t) (leb t end) (le-leb 1 t l) (le-leb t end u)) e

  point_last : 1 ≤ end → point L i end ≡ true
  point_last l = point_in_lem end l (omega arith) (or_left (eqb end end) _ (eq-eqb end end (omega arith)))

  point-multiple : (t j : ℕ) → 1 ≤ t → t ≤ end → j < i → multiple L i t j ≡ true → point L i t ≡ true
  point-multiple t j l u h e = point_in_lem t l u (or_right (eqb t end) _ (some_at (multiple L i t) i j h e))

-- ---- the earliest that is tried and holds

module _ (tried : ℕ → Bool) (L : Load) (low : ℕ → ℕ) (i : ℕ) where
  holds_parts : (t : ℕ) → holds tried L low i t ≡ true → (tried t ≡ true) × (demand L i t ≤ low t)
  unfolding holds
  holds_parts t e = let a = and_parts (tried t) (leb (demand L i t) (low t)) e in (a.0, leb-true (demand L i t) (low t) a.1)

  holds_is : (t : ℕ) → tried t ≡ true → demand L i t ≤ low t → holds tried L low i t ≡ true
  unfolding holds
  holds_is t e d = and_intro (tried t) (leb (demand L i t) (low t)) e (le-leb (demand L i t) (low t) d)

  -- it is no later than any that is tried and holds
  earliest-upto : (t : ℕ) → tried t ≡ true → demand L i t ≤ low t → earliest tried L low i ≤ t
  unfolding earliest
  earliest-upto t e d = first-upto (holds tried L low i) (suc (last_point L i)) t (holds_is t e d)

  -- up to the last point it is tried, and holds
  earliest-holds : earliest tried L low i ≤ last_point L i → (tried (earliest tried L low i) ≡ true) × (demand L i (earliest tried L low i) ≤ low (earliest tried L low i))
  unfolding earliest
  earliest-holds h = holds_parts (earliest tried L low i) (first_at (holds tried L low i) (suc (last_point L i)) (omega arith))

  earliest_range : earliest tried L low i ≤ suc (last_point L i)
  unfolding earliest
  earliest_range = first-le (holds tried L low i) (suc (last_point L i))

module _ (L : Load) (low : ℕ → ℕ) (i : ℕ) where
  -- a point that holds is a pass
  pub point_passes : first_point L low i ≤ last_point L i → Passes L low i
  point_passes h =
      let a = earliest-holds (point L i) L low i h in
      let b = point_range L i (first_point L low i) a.0 in
      (first_point L low i, b.0, b.1, a.1)

  -- no later than any tick that holds
  tick_upto : (t : ℕ) → 1 ≤ t → demand L i t ≤ low t → first_tick L low i ≤ t
  tick_upto t l d = earliest-upto (leb 1) L low i t (le-leb 1 t l) d

  -- every tick is tried: a tick that holds is what passing is
  pub load_ticks : Passes L low i ↔ (first_tick L low i ≤ last_point L i)
  load_ticks = (
    λ (t, l, u, d). omega (arith, tick_upto t l d),
    λ h. let a = earliest-holds (leb 1) L low i h in (first_tick L low i, leb-true 1 (first_tick L low i) a.0, h, a.1),
  )

pub point_smallest : PointSmallest
point_smallest L low i h = let a = earliest-holds (point L i) L low i h in (a.0, a.1, earliest-upto (point L i) L low i)

pub tick_smallest : TickSmallest
tick_smallest L low i h = let a = earliest-holds (leb 1) L low i h in (leb-true 1 (first_tick L low i) a.0, a.1, tick_upto L low i)

pub tick_at_most_point : TickAtMostPoint
tick_at_most_point L low i = at (leb (first_point L low i) (last_point L i)) refl
  where
    at : (b : Bool) → leb (first_point L low i) (last_point L i) ≡ b → first_tick L low i ≤ first_point L low i
    at true e =
        let a = earliest-holds (point L i) L low i (leb-true _ _ e) in
        tick_upto L low i (first_point L low i) (point_range L i (first_point L low i) a.0).0 a.1
    at false e = omega (arith, leb-false (first_point L low i) (last_point L i) e, earliest_range (leb 1) L low i)

-- ---- demand rises exactly behind a multiple

module _ (L : Load) (i : ℕ) (periods : (j : ℕ) → j < i → T (L.rival i j) → 0 < L.period j) where
  no_multiple : (t j : ℕ) → multiple L i t j ≡ false → T (L.rival i j) → ¬ ((t + L.jitter j) % L.period j ≡ 0)
  unfolding multiple
  no_multiple t j e b z =
      true≢false (sym (and_intro (L.rival i j) (eqb ((t + L.jitter j) % L.period j) 0) (of_T (L.rival i j) b) (eq-eqb ((t + L.jitter j) % L.period j) 0 z)) ∙ e)

  -- it rises only behind one
  demand-suc : (t : ℕ) → ((j : ℕ) → j < i → multiple L i t j ≡ false) → demand L i (suc t) ≤ demand L i t
  unfolding demand asked
  demand-suc t none =
      omega (
        arith,
        sum-le i (asked L i (suc t)) (asked L i t) (λ j l.
            only-le (L.rival i j) _ _ (λ b.
            let e : suc t + L.jitter j ≡ suc (t + L.jitter j) = omega arith in
            mul-le-mul_left (L.cost j) (rw e (round_suc (t + L.jitter j) (L.period j) (periods j l b) (no_multiple t j (none j l) b))))),
      )

  -- a rival asks no less of more ticks
  asked_grows : (t j : ℕ) → j < i → asked L i t j ≤ asked L i (suc t) j
  unfolding asked
  asked_grows t j l = only-le (L.rival i j) _ _ (λ b. mul-le-mul_left (L.cost j) (round_mono (t + L.jitter j) (suc t + L.jitter j) (L.period j) (periods j l b) (omega arith)))

  -- and more, behind a multiple of its period
  asked_more : (t j : ℕ) → j < i → 0 < L.cost j → multiple L i t j ≡ true → asked L i t j < asked L i (suc t) j
  unfolding asked multiple only
  asked_more t j l c e =
      let a = and_parts (L.rival i j) (eqb ((t + L.jitter j) % L.period j) 0) e in
      let h = periods j l (to_T (L.rival i j) a.0) in
      let x = t + L.jitter j in
      let z : suc t + L.jitter j ≡ suc x = omega arith in
      let r : round_up (suc x) (L.period j) ≡ round_up x (L.period j) + 1 = round_due x (L.period j) h (round_multiple x (L.period j) h (eqb-true _ _ a.1)) in
      let m : L.cost j * (round_up x (L.period j) + 1) ≡ L.cost j * round_up x (L.period j) + L.cost j = rw (add-one (round_up x (L.period j))) (mul-suc (L.cost j) (round_up x (L.period j))) in
      rw (a.0, z, r) (omega (arith, m))

  pub demand_rises : ((j : ℕ) → j < i → 0 < L.cost j) → (t : ℕ) → some (multiple L i t) i ≡ ltb (demand L i t) (demand L i (suc t))
  unfolding demand
  demand_rises costs t = go (any_or_none (multiple L i t) i)
    where
      go : ((j : ℕ) × (j < i) × (multiple L i t j ≡ true)) ⊎ ((j : ℕ) → j < i → multiple L i t j ≡ false) → some (multiple L i t) i ≡ ltb (demand L i t) (demand L i (suc t))
      go (inl (j, h, m)) =
          let s : sum (asked L i t) i < sum (asked L i (suc t)) i = sum_lt i (asked L i t) (asked L i (suc t)) (asked_grows t) j h (asked_more t j h (costs j h) m) in
          some_at (multiple L i t) i j h m ∙ sym (lt-ltb (demand L i t) (demand L i (suc t)) (omega arith))
      go (inr none) = some-done (multiple L i t) i i (omega arith) (omega arith) (first-none (multiple L i t) i none) ∙ sym (le-ltb (demand L i t) (demand L i (suc t)) (demand-suc t none))

-- ---- and a pass has one

module _ (L : Load) (low : ℕ → ℕ) (grows : (t : ℕ) → low t ≤ low (suc t)) (i : ℕ) (periods : (j : ℕ) → j < i → T (L.rival i j) → 0 < L.period j) where
  -- from t that holds up to the next point
  up : (g t : ℕ) → t + g ≡ last_point L i → 1 ≤ t → demand L i t ≤ low t → first_point L low i ≤ last_point L i
  up zero t e l d =
      let f : t ≡ last_point L i = omega arith in
      omega (arith, earliest-upto (point L i) L low i t (rw f (point_last L i (omega arith))) d)
  up (suc g) t e l d = go (λ d'. up g (suc t) (omega arith) (omega arith) d') (any_or_none (multiple L i t) i)
    where
      go : (demand L i (suc t) ≤ low (suc t) → first_point L low i ≤ last_point L i) → ((j : ℕ) × (j < i) × (multiple L i t j ≡ true)) ⊎ ((j : ℕ) → j < i → multiple L i t j ≡ false) → first_point L low i ≤ last_point L i
      go ih (inl (j, h, m)) = omega (arith, earliest-upto (point L i) L low i t (point-multiple L i t j l (omega arith) h m) d)
      go ih (inr none) = ih (omega (arith, demand-suc L i periods t none, grows t))

pub load_points : LoadPoints
load_points L low grows i periods = (λ (t, l, u, d). up L low grows i periods (last_point L i - t) t (omega arith) l d, point_passes L low i)
