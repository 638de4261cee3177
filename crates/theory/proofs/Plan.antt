-- Least service: the smallest over every start in ℕ, attained, 0 of no ticks, between 0 and t, growing with the stretch. Assumes nothing.
use mathlib.Core.Path.{◌≡◌, sym, ap, ◌∙◌}
use mathlib.Core.List.{List}
use Prim.Native.Nat.{ℕ, zero, suc, ◌+◌, ◌-◌, ◌%◌, ◌≤◌, ◌<◌}
use native.Mathlib.Nat.{add_assoc, add-zero, mod-add-mod, mod-lt, mod-eq_of_lt}
use native.Mathlib.Omega.{arith}
use lib.Dec.{eqb}
use lib.ListN.{length, get_or}
use Rattle.rules.specs.Walk.{only, count, sum, smallest}
use Rattle.rules.proofs.Sum.{count-zero, count_more, count-le, count_ext}
use Rattle.rules.proofs.Least.{smallest-le, smallest_is, smallest_mono}
use Rattle.rules.specs.declared.Rule.{Rule}
use Rattle.rules.specs.declared.Rule.TheVariants.{Own, Switching}
use Rattle.theory.specs.Plan.{owner, owner_before, switch_tick, unswitched, service, owned, held, least}
use Rattle.theory.specs.Theorems.{LeastIsLeast, LeastAttained, LeastZero, LeastBounds, LeastGrows, ServesInFrame, PastCycleShort}
use Rattle.theory.proofs.Words.{owns_from}

-- ---- the ticks held in a stretch

-- no ticks hold nothing
pub held-zero : (o : ℕ → ℕ) (p s : ℕ) → owned o p 0 s ≡ 0
unfolding owned
held-zero o p s = count-zero (owns_from o p s)

-- one tick more
pub held_more : (o : ℕ → ℕ) (p n s : ℕ) → owned o p (n + 1) s ≡ owned o p n s + only (owns_from o p s n) 1
unfolding owned
held_more o p n s = count_more (owns_from o p s) n

pub held-le : (o : ℕ → ℕ) (p n s : ℕ) → owned o p n s ≤ n
unfolding owned
held-le o p n s = count-le (owns_from o p s) n

pub past_cycle_short : PastCycleShort
past_cycle_short rule plan p q m s h = omega (arith, held-le (service rule plan) p m s)

-- ---- the plan repeats

pub owner-place : (plan : List ℕ) (at : ℕ) → at < length plan → owner plan at ≡ get_or plan at 0
unfolding owner
owner-place plan at l = ap (λ (x : ℕ). get_or plan x 0) (mod-eq_of_lt l)

owner_around : (plan : List ℕ) (s k : ℕ) → owner plan (s % length plan + k) ≡ owner plan (s + k)
unfolding owner
owner_around plan s k = ap (λ (x : ℕ). get_or plan x 0) (mod-add-mod s (length plan) k)

before_around : (plan : List ℕ) (s k : ℕ) → owner_before plan (s % length plan + k) ≡ owner_before plan (s + k)
unfolding owner_before
before_around plan s k = simp add_assoc (owner_around plan s (k + (length plan - 1)))

unswitched_around : (plan : List ℕ) (s k : ℕ) → unswitched plan (s % length plan + k) ≡ unswitched plan (s + k)
unfolding unswitched switch_tick
unswitched_around plan s k = rw (before_around plan s k, owner_around plan s k)

pub service_around : (rule : Rule) (plan : List ℕ) (s k : ℕ) → service rule plan (s % length plan + k) ≡ service rule plan (s + k)
unfolding service
service_around Own plan s k = owner_around plan s k
service_around Switching plan s k = unswitched_around plan s k

-- a tick's place in the frame is enough
pub service-place : (rule : Rule) (plan : List ℕ) (t : ℕ) → service rule plan (t % length plan) ≡ service rule plan t
service-place rule plan t = ap (service rule plan) (sym (add-zero (t % length plan))) ∙ service_around rule plan t 0 ∙ ap (service rule plan) (add-zero t)

-- a start past the frame's end is one within it
pub held_around : (rule : Rule) (plan : List ℕ) (p t s : ℕ) → held rule plan p t (s % length plan) ≡ held rule plan p t s
unfolding owned
held_around rule plan p t s = count_ext t _ _ (λ k l. ap (λ (x : ℕ). eqb x p) (service_around rule plan s k))

-- ---- an exact minimum

pub least_is_least : LeastIsLeast
unfolding least
least_is_least rule plan p t s h =
    let l : least rule plan p t ≤ held rule plan p t (s % length plan) = smallest-le (held rule plan p t) _ (s % length plan) (omega (arith, mod-lt s h)) in
    rw held_around at l

pub least_attained : LeastAttained
unfolding least
least_attained rule plan p t h = smallest_is (held rule plan p t) (length plan) h

pub serves_in_frame : ServesInFrame
serves_in_frame rule plan p q m h within s = rw (← held_around rule plan p m s) (within (s % length plan) (mod-lt s h))

-- ---- between 0 and t, growing

-- the smallest is at most the first, also of no numbers
smallest-first : (f : ℕ → ℕ) (n : ℕ) → smallest f n ≤ f 0
unfolding smallest
smallest-first f zero = omega arith
smallest-first f (suc n) = smallest-le f (suc n) 0 (omega arith)

pub least_bounds : LeastBounds
unfolding least
least_bounds rule plan p t = omega (arith, smallest-first (held rule plan p t) (length plan), held-le (service rule plan) p t 0)

pub least_zero : LeastZero
least_zero rule plan p = omega (arith, least_bounds rule plan p 0)

pub least_grows : LeastGrows
unfolding least owned count sum
least_grows rule plan p t = smallest_mono (length plan) (held rule plan p t) (held rule plan p (suc t)) (λ s. omega arith)
