-- The switch tick: which tick is one, that one run has none, and that it never adds service. Assumes nothing.
use mathlib.Core.Path.{◌≡◌, refl, ap, ◌∙◌}
use mathlib.Core.Logic.{◌↔◌}
use mathlib.Core.Bool.{Bool, true, false, not, ◌&&◌}
use mathlib.Core.List.{List}
use Prim.Native.Nat.{ℕ, suc, ◌+◌, ◌-◌, ◌≤◌, ◌<◌}
use native.Mathlib.Nat.{add-mod_right, zero-add}
use native.Mathlib.Decide.{ℕ_discrete}
use native.Mathlib.Omega.{arith}
use lib.Dec.{eqb}
use lib.ListN.{length}
use borrow.Author.Tests.{eq-eqb, ne_eqb, eqb-false, not-true}
use Rattle.rules.specs.Walk.{pick, only, count}
use Rattle.rules.specs.Table.{cycle, partition, budget, deadline, period}
use Rattle.rules.specs.declared.Rule.TheVariants.{Own, Switching}
use Rattle.rules.proofs.Sum.{only-eq, only_ne, only_self, sum-le}
use Rattle.rules.proofs.Least.{smallest_mono}
use Rattle.rules.proofs.Tests.{and_parts, good-times}
use Rattle.theory.specs.Plan.{owner, owner_before, switch_tick, unswitched, service, owned, held, least}
use Rattle.theory.specs.Theorems.{SwitchExactly, SwitchServes, OneRun, ServiceWithin, HeldWithin, LeastWithin, ServesWithin, PassesWithin}

-- ---- which tick is one

-- a partition's tick whose tick before is b's
switch_means : (plan : List ℕ) (t b : ℕ) → owner_before plan t ≡ b → (switch_tick plan t ≡ true) ↔ ((0 < owner plan t) × ¬ (b ≡ owner plan t))
unfolding switch_tick
switch_means plan t b e = (there, back)
  where
    there : (not (eqb (owner plan t) 0) && not (eqb (owner_before plan t) (owner plan t))) ≡ true → (0 < owner plan t) × ¬ (b ≡ owner plan t)
    there h =
        let a = and_parts (not (eqb (owner plan t) 0)) (not (eqb (owner_before plan t) (owner plan t))) h in
        let some : ¬ (owner plan t ≡ 0) = eqb-false _ _ (not-true _ a.0) in
        (omega arith, λ q. eqb-false _ _ (not-true _ a.1) (e ∙ q))

    back : (0 < owner plan t) × ¬ (b ≡ owner plan t) → (not (eqb (owner plan t) 0) && not (eqb (owner_before plan t) (owner plan t))) ≡ true
    back h = rw (ne_eqb (owner plan t) 0 (λ q. absurd (omega (arith, h.0))), e, ne_eqb b (owner plan t) h.1)

pub before-next : (plan : List ℕ) (t : ℕ) → 0 < length plan → owner_before plan (suc t) ≡ owner plan t
unfolding owner_before owner
before-next plan t h =
    let e : suc t + (length plan - 1) ≡ t + length plan = omega arith in
    rw (e, add-mod_right t (length plan))

before-first : (plan : List ℕ) → owner_before plan 0 ≡ owner plan (length plan - 1)
unfolding owner_before
before-first plan = ap (owner plan) (zero-add (length plan - 1))

pub switch_exactly : SwitchExactly
switch_exactly plan h = (λ t. switch_means plan (suc t) (owner plan t) (before-next plan t h), switch_means plan 0 (owner plan (length plan - 1)) (before-first plan))

pub switch_serves : SwitchServes
unfolding service unswitched
switch_serves plan t = (λ e. rw e, λ e. rw e)

pub one_run : OneRun
unfolding switch_tick owner_before
one_run plan p all t = rw (all (t + (length plan - 1)), all t, eq-eqb p p refl) (none (not (eqb p 0)))
  where
    none : (b : Bool) → (b && false) ≡ false
    none true = refl
    none false = refl

-- ---- never more than the owned ticks

pub service_within : ServiceWithin
unfolding service unswitched
service_within Own plan p t h e = e
service_within Switching plan p t h e = go (switch_tick plan t) e
  where
    go : (b : Bool) → pick b 0 (owner plan t) ≡ p → owner plan t ≡ p
    go true e = absurd (omega arith)
    go false e = e

pub held_within : HeldWithin
unfolding owned count
held_within rule plan p n s h = sum-le n _ _ (λ k l. go k (ℕ_discrete (service rule plan (s + k)) p))
  where
    go : (k : ℕ) → Dec (service rule plan (s + k) ≡ p) → only (eqb (service rule plan (s + k)) p) 1 ≤ only (eqb (service Own plan (s + k)) p) 1
    go k (yes e) = omega (arith, only_self (eqb (service rule plan (s + k)) p) 1, only-eq (service Own plan (s + k)) p 1 (service_within rule plan p (s + k) h e))
    go k (no f) = omega (arith, only_ne (service rule plan (s + k)) p 1 f)

pub least_within : LeastWithin
unfolding least
least_within rule plan p t h = smallest_mono (length plan) (held rule plan p t) (held Own plan p t) (λ s. held_within rule plan p t s h)

pub serves_within : ServesWithin
serves_within rule q plan ps serves k s l = omega (arith, serves k s l, held_within rule plan (k + 1) (cycle ps k) s (omega arith))

pub passes_within : PassesWithin
passes_within rule plan ts parts good i l (t, from, to, holds) =
    let g = good-times parts (partition ts i) (budget ts i) (deadline ts i) (period ts i) (good i l) in
    (t, from, to, omega (arith, holds, least_within rule plan (partition ts i) t g.0))
