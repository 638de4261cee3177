-- What a turn of each pass leaves, and how passes follow one another. Assumes nothing.
use Prim.Native.Nat.{ℕ, ◌+◌, ◌-◌, ◌%◌, ◌≤◌, ◌<◌, zero-le}
use mathlib.Core.Path.{◌≡◌, refl, sym, ap, ◌∙◌}
use mathlib.Core.Bool.{Bool, true, false}
use mathlib.Core.List.{List}
use native.Mathlib.Nat.{mod-le, mod-eq_of_lt, mod-add-mod}
use native.Mathlib.Decide.{ℕ_discrete}
use native.Mathlib.Omega.{arith}
use lib.Dec.{eqb}
use lib.ListN.{length, set, length-set}
use borrow.Author.Tests.{eq-eqb, ne_eqb}
use Rattle.rules.specs.Walk.{pick, only, walk}
use Rattle.rules.proofs.First.{walk-zero, walk_more}
use Rattle.rules.proofs.Sum.{only_self, count_ext}
use Rattle.theory.specs.Plan.{owned}
use Rattle.rules.specs.Table.{cycle}
use Rattle.rules.specs.Inner.{AsNamed}
use Rattle.rules.proofs.Named.{named_none, named-turn, named_as, named_then}
use Rattle.theory.specs.Harmonic.{taken, give, turn, planned}
use Rattle.theory.proofs.Harmonic.{seen_first, seen_next, give_at}
use Rattle.plan_lay.specs.Inner.{tick_of, given_tick}
use Rattle.theory.specs.Inner.{idle}

-- ---- giving

-- what was seen before the next tick in its cycle
pub seen_turn : (o : ℕ → ℕ) (m t at seen met : ℕ) → 0 < m → at ≡ (t + 1) % m → seen ≡ owned o 0 (t % m) (t - t % m) → met ≡ seen + only (eqb (o t) 0) 1
    → pick (eqb at 0) 0 met ≡ owned o 0 ((t + 1) % m) (t + 1 - (t + 1) % m)
seen_turn o m t at seen met pos ea es em = go (ℕ_discrete ((t + 1) % m) 0)
  where
    go : Dec ((t + 1) % m ≡ 0) → pick (eqb at 0) 0 met ≡ owned o 0 ((t + 1) % m) (t + 1 - (t + 1) % m)
    go (yes z) = rw (ea, eq-eqb _ _ z) (sym (seen_first o m (t + 1) z))
    go (no z) = rw (ea, ne_eqb _ _ z) (em ∙ ap (λ (x : ℕ). x + only (eqb (o t) 0) 1) es ∙ sym (seen_next o m t pos z))

-- it looks only at ticks up to its own
give-same : (p q m : ℕ) (o o' : ℕ → ℕ) (t : ℕ) → ((u : ℕ) → u ≤ t → o u ≡ o' u) → give p q m o t ≡ give p q m o' t
unfolding give owned
give-same p q m o o' t e =
    let c = count_ext (t % m) (λ k. eqb (o (t - t % m + k)) 0) (λ k. eqb (o' (t - t % m + k)) 0) (λ k l. ap (λ (x : ℕ). eqb x 0) (e (t - t % m + k) (omega (arith, mod-le t m)))) in
    rw (e t (omega arith), c)

-- the numbers that a turn gives by
pub turn_is : (q : ℕ → ℕ) (ps : List ℕ) (r k w m h : ℕ) (o : ℕ → ℕ) (before after : List ℕ) → k ≡ taken ps r → w ≡ q k → m ≡ cycle ps k
    → AsNamed (give (k + 1) w m o) h before after → AsNamed (turn q ps r o) h before after
unfolding turn
turn_is q ps r k w m h o before after ek ew em v = rw (← ek, ← ew, ← em) v

module _ (q : ℕ → ℕ) (ps : List ℕ) where
  -- one partition's turn, on what the turns before it left
  pub planned-turn : (r h : ℕ) (before cur after : List ℕ) → AsNamed (planned q ps r) h before cur → AsNamed (turn q ps r (tick_of cur)) h cur after
      → AsNamed (planned q ps (r + 1)) h before after
  unfolding planned turn
  planned-turn r h before cur after v w =
      named_then (planned q ps r) (planned q ps (r + 1)) h before cur after v
      (named_as (turn q ps r (tick_of cur)) (planned q ps (r + 1)) h cur after
      (λ t l. give-same _ _ _ (tick_of cur) (planned q ps r) t (λ u g. v.done u (omega arith)) ∙ sym (ap (λ (f : ℕ → ℕ). f t) (walk_more (turn q ps) idle r))) w)

  pub planned-none : (h : ℕ) (before after : List ℕ) → AsNamed idle h before after → AsNamed (planned q ps 0) h before after
  unfolding planned
  planned-none h before after w =
      named_as idle (walk (turn q ps) idle 0) h before after (λ t l. sym (ap (λ (f : ℕ → ℕ). f t) (walk-zero (turn q ps) idle))) w

-- the loop that gives, at tick t: its place in its cycle, and the idle ticks seen there
pub record Giving (p q m : ℕ) (before : List ℕ) (t at seen : ℕ) (cur : List ℕ) : Type 0 where
  pub low : at < m
  pub few : seen ≤ t
  pub long : length cur ≡ length before
  pub place : at ≡ t % m
  pub met : seen ≡ owned (tick_of before) 0 (t % m) (t - t % m)
  pub so_far : AsNamed (give p q m (tick_of before)) t before cur

pub giving_none : (p q m : ℕ) (before : List ℕ) → 0 < m → Giving p q m before 0 0 0 before
giving_none p q m before pos =
    let z : 0 % m ≡ 0 = mod-eq_of_lt pos in
    record { low = pos; few = zero-le; long = refl; place = sym z; met = sym (seen_first (tick_of before) m 0 z); so_far = named_none _ before }

module _ (p q m : ℕ) (before : List ℕ) (t at seen : ℕ) (cur : List ℕ) (pos : 0 < m) (inside : t < length before) (g : Giving p q m before t at seen cur) where
  same_tick : tick_of cur t ≡ tick_of before t
  same_tick = g.so_far.rest t (omega arith)

  pub giving_turn : (at' met seen' : ℕ) (after : List ℕ) → (at' < m) × (at' ≡ (at + 1) % m) → met ≡ seen + only (eqb (tick_of cur t) 0) 1
      → after ≡ set cur t (given_tick p q seen (tick_of cur t)) → seen' ≡ pick (eqb at' 0) 0 met → Giving p q m before (t + 1) at' seen' after
  giving_turn at' met seen' after a em ea es =
      let o : ℕ → ℕ = tick_of before in
      let place : at' ≡ (t + 1) % m = a.1 ∙ ap (λ (x : ℕ). (x + 1) % m) g.place ∙ mod-add-mod t m 1 in
      let em' : met ≡ seen + only (eqb (o t) 0) 1 = rw same_tick at em in
      let v : given_tick p q seen (tick_of cur t) ≡ give p q m o t = rw same_tick (sym (give_at p q m o t seen g.met)) in
      record {
        low = a.0;
        few = rw es (few (eqb at' 0) (omega (arith, em', g.few, only_self (eqb (o t) 0) 1)));
        long = ap length ea ∙ length-set cur t _ ∙ g.long;
        place = place;
        met = es ∙ seen_turn o m t at' seen met pos place g.met em';
        so_far = named-turn (give p q m o) t _ before cur after g.so_far inside ea v;
      }
    where
      few : (b : Bool) → met ≤ t + 1 → pick b 0 met ≤ t + 1
      few true h = zero-le
      few false h = h
