-- A plan whose ticks that serve p repeat after m has the curve of its first m ticks. Assumes nothing.
use Prim.Native.Nat.{ℕ, zero, suc, ◌+◌, ◌-◌, ◌%◌, ◌≤◌, ◌<◌}
use mathlib.Core.Path.{◌≡◌, sym, ap, ◌∙◌}
use mathlib.Core.Logic.{◌⊎◌, inl, inr}
use mathlib.Core.Bool.{Bool}
use mathlib.Core.List.{List}
use native.Mathlib.Nat.{mod-mod_of_dvd, dvd_of_mod-eq-zero, mod-eq_of_lt, mod-lt, add-mod_right, mod_self}
use native.Mathlib.Decide.{ℕ_discrete}
use native.Mathlib.Omega.{arith}
use lib.Dec.{eqb}
use lib.ListN.{length, take}
use lib.Seq.{take_all, length-take-le, get_or-take}
use Rattle.rules.specs.declared.Rule.{Rule}
use Rattle.rules.specs.declared.Rule.TheVariants.{Own, Switching}
use Rattle.rules.proofs.Sum.{le-or-lt, count_ext}
use Rattle.theory.specs.Plan.{owner, owner_before, switch_tick, unswitched, service, owned, held, least}
use Rattle.theory.proofs.Plan.{owner-place, service-place, least_is_least, least_attained}
use Rattle.theory.proofs.Switch.{before-next}
use Rattle.plan_curve.specs.Inner.{Repeats}

-- ---- a plan's first m ticks by themselves: behind the first of them they serve as they do in the plan

module _ (plan : List ℕ) (m : ℕ) (l : m ≤ length plan) where
  short : length (take m plan) ≡ m
  short = length-take-le m plan l

  same-owner : (y : ℕ) → y < m → owner (take m plan) y ≡ owner plan y
  same-owner y h = owner-place (take m plan) y (omega (arith, short)) ∙ get_or-take m plan y 0 h ∙ sym (owner-place plan y (omega arith))

  same-before : (y : ℕ) → suc y < m → owner_before (take m plan) (suc y) ≡ owner_before plan (suc y)
  same-before y h = before-next (take m plan) y (omega (arith, short)) ∙ same-owner y (omega arith) ∙ sym (before-next plan y (omega arith))

  same_tick : (rule : Rule) (y : ℕ) → suc y < m → service rule (take m plan) (suc y) ≡ service rule plan (suc y)
  unfolding service unswitched switch_tick
  same_tick Own y h = same-owner (suc y) h
  same_tick Switching y h = rw (same-before y h, same-owner (suc y) h)

-- ---- rounds

module _ (rule : Rule) (plan : List ℕ) (p m : ℕ) (w : Repeats rule plan p m) (pos : 0 < m) (l : m ≤ length plan) where
  -- the place in the round is enough
  in_round : (g y : ℕ) → y ≤ g → y < length plan → eqb (service rule plan y) p ≡ eqb (service rule plan (y % m)) p
  in_round zero y h u = let e : y % m ≡ y = mod-eq_of_lt (omega arith) in rw e
  in_round (suc g) y h u = go (in_round g (y - m)) (le-or-lt m y)
    where
      go : (y - m ≤ g → y - m < length plan → eqb (service rule plan (y - m)) p ≡ eqb (service rule plan ((y - m) % m)) p) → (m ≤ y) ⊎ (y < m) → eqb (service rule plan y) p ≡ eqb (service rule plan (y % m)) p
      go ih (inl k) =
          let e : y - m + m ≡ y = omega arith in
          let r : (y - m) % m ≡ y % m = sym (add-mod_right (y - m) m) ∙ ap (λ (x : ℕ). x % m) e in
          sym (ap (λ (x : ℕ). eqb (service rule plan x) p) e) ∙ w.again (y - m) (omega arith) ∙ ih (omega arith) (omega arith) ∙ ap (λ (x : ℕ). eqb (service rule plan x) p) r
      go ih (inr k) = let e : y % m ≡ y = mod-eq_of_lt k in rw e

  -- and a round by itself is as in the plan
  by_itself : (y : ℕ) → y < m → eqb (service rule (take m plan) y) p ≡ eqb (service rule plan y) p
  by_itself zero h = w.first
  by_itself (suc y) h = ap (λ (z : ℕ). eqb z p) (same_tick plan m l rule y h)

  same-service : (x : ℕ) → eqb (service rule plan x) p ≡ eqb (service rule (take m plan) x) p
  same-service x =
      let y = x % length plan in
      let u : y < length plan = mod-lt x (omega arith) in
      let r : y % m ≡ x % m = mod-mod_of_dvd _ x (dvd_of_mod-eq-zero _ w.whole) in
      let d : service rule (take m plan) (x % m) ≡ service rule (take m plan) x = rw (short plan m l) at (service-place rule (take m plan) x) in
      ap (λ (z : ℕ). eqb z p) (sym (service-place rule plan x))
      ∙ in_round y y (omega arith) u
      ∙ ap (λ (z : ℕ). eqb (service rule plan z) p) r
      ∙ sym (by_itself (x % m) (mod-lt x pos))
      ∙ ap (λ (z : ℕ). eqb z p) d

  same-held : (t s : ℕ) → held rule plan p t s ≡ held rule (take m plan) p t s
  unfolding owned
  same-held t s = count_ext t _ _ (λ k h. same-service (s + k))

  rounds : (t : ℕ) → least rule (take m plan) p t ≡ least rule plan p t
  rounds t =
      let f : 0 < length plan = omega arith in
      let g : 0 < length (take m plan) = omega (arith, short plan m l) in
      let a = least_attained rule plan p t f in
      let b = least_attained rule (take m plan) p t g in
      omega (arith, a.2, b.2, same-held t a.0, same-held t b.0, least_is_least rule (take m plan) p t a.0 g, least_is_least rule plan p t b.0 f)

pub rounds_least : (rule : Rule) (plan : List ℕ) (p m t : ℕ) → Repeats rule plan p m → m ≤ length plan → least rule (take m plan) p t ≡ least rule plan p t
rounds_least rule plan p m t w l = go (ℕ_discrete (length plan) 0)
  where
    go : Dec (length plan ≡ 0) → least rule (take m plan) p t ≡ least rule plan p t
    go (yes z) = ap (λ (x : List ℕ). least rule x p t) (take_all m plan (omega arith))
    go (no n) = rounds rule plan p m w (w.some (omega arith)) l t

-- ---- the laws that the code's proofs cite

-- the frame itself
pub whole-frame : (rule : Rule) (plan : List ℕ) (p f : ℕ) → f ≡ length plan → Repeats rule plan p f
whole-frame rule plan p f e =
    record {
      whole = rw e (mod_self (length plan));
      some = λ h. omega arith;
      first = ap (λ (x : List ℕ). eqb (service rule x 0) p) (take_all f plan (omega arith));
      again = λ k h. absurd (omega arith);
    }

-- the ticks before place k are as those m later
pub record AgainTo (rule : Rule) (plan : List ℕ) (p m k : ℕ) : Type 0 where
  pub again : (i : ℕ) → i < k → eqb (service rule plan (i + m)) p ≡ eqb (service rule plan i) p

pub again-none : (rule : Rule) (plan : List ℕ) (p m : ℕ) → AgainTo rule plan p m 0
again-none rule plan p m = record { again = λ i l. absurd (omega arith) }

pub again_more : (rule : Rule) (plan : List ℕ) (p m k : ℕ) (b c : Bool) → AgainTo rule plan p m k → b ≡ eqb (service rule plan (k + m)) p → c ≡ eqb (service rule plan k) p → b ≡ c → AgainTo rule plan p m (k + 1)
again_more rule plan p m k b c w eb ec e = record { again = λ i l. go i l (ℕ_discrete i k) }
  where
    go : (i : ℕ) → i < k + 1 → Dec (i ≡ k) → eqb (service rule plan (i + m)) p ≡ eqb (service rule plan i) p
    go i l (yes z) = rw z (sym eb ∙ e ∙ ec)
    go i l (no n) = w.again i (omega arith)

pub again-all : (rule : Rule) (plan : List ℕ) (p m k : ℕ) (b c : Bool) → 0 < m → length plan % m ≡ 0 → b ≡ eqb (service rule (take m plan) 0) p → c ≡ eqb (service rule plan 0) p → b ≡ c
    → length plan - m ≤ k → AgainTo rule plan p m k → Repeats rule plan p m
again-all rule plan p m k b c pos z eb ec e g w =
    record {
      whole = z;
      some = λ h. pos;
      first = sym eb ∙ e ∙ ec;
      again = λ i h. w.again i (omega arith);
    }
