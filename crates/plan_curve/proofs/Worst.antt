-- A worst stretch can be taken to start right behind a run. Assumes nothing.
use Prim.Native.Nat.{ℕ, zero, suc, ◌+◌, ◌-◌, ◌*◌, ◌≤◌, ◌<◌}
use mathlib.Core.Path.{◌≡◌, refl, sym, ap, ◌∙◌}
use mathlib.Core.Bool.{true, ◌&&◌, not}
use mathlib.Core.List.{List}
use native.Mathlib.Nat.{mod_self, add-zero, add-suc, mul-one, mul-le-mul_left, add-mul-mod_self_right}
use native.Mathlib.Numerals.{add-one}
use native.Mathlib.Decide.{ℕ_discrete}
use native.Mathlib.Omega.{arith}
use lib.Dec.{eqb}
use lib.ListN.{length}
use borrow.Author.Tests.{eq-eqb, ne_eqb}
use Rattle.rules.specs.Walk.{only}
use Rattle.rules.specs.declared.Rule.{Rule}
use Rattle.rules.proofs.Sum.{only-eq, only_ne, only_self}
use Rattle.rules.proofs.Tests.{and_intro, or_left, or_right}
use Rattle.theory.specs.Plan.{service, held}
use Rattle.theory.proofs.Plan.{service-place, held-zero, held_more, held_around}
use Rattle.theory.proofs.Need.{owned_split}
use Rattle.plan_curve.specs.Curve.{start_tried}
use Rattle.plan_curve.specs.Theorems.{WorstBehindRun, WorstStart}

module _ (rule : Rule) (plan : List ℕ) (p : ℕ) where
  abbrev who : ℕ → ℕ
  who = service rule plan

  -- from one start to the next: the tick that enters, the tick that leaves
  pub next : (t s : ℕ) → held rule plan p t s + only (eqb (who (s + t)) p) 1 ≡ only (eqb (who s) p) 1 + held rule plan p t (suc s)
  next t s =
      let one : held rule plan p 1 s ≡ only (eqb (who s) p) 1 =
      held_more who p 0 s ∙ omega (arith, held-zero who p s, ap (λ (x : ℕ). only (eqb (who x) p) 1) (add-zero s)) in
      let e : 1 + t ≡ t + 1 = omega arith in
      omega (arith, one, held_more who p t s, rw (e, add-one s) at (owned_split who p s 1 t))

  -- behind a tick that serves p a stretch holds no more
  later : (t s : ℕ) → who s ≡ p → held rule plan p t (suc s) ≤ held rule plan p t s
  later t s e = omega (arith, next t s, only-eq (who s) p 1 e, only_self (eqb (who (s + t)) p) 1)

  -- before another tick a stretch holds no more
  earlier : (t s : ℕ) → ¬ (who s ≡ p) → held rule plan p t s ≤ held rule plan p t (suc s)
  earlier t s h = omega (arith, next t s, only_ne (who s) p 1 h)

  at_first : start_tried rule plan p 0 ≡ true
  unfolding start_tried
  at_first = or_left (eqb 0 0) (not (eqb (who 0) p) && eqb (who (0 - 1)) p) (eq-eqb 0 0 refl)

  at_end : (s : ℕ) → ¬ (who (suc s) ≡ p) → who s ≡ p → start_tried rule plan p (suc s) ≡ true
  unfolding start_tried
  at_end s h e =
      let z : suc s - 1 ≡ s = omega arith in
      or_right (eqb (suc s) 0) (not (eqb (who (suc s)) p) && eqb (who (suc s - 1)) p) (and_intro (not (eqb (who (suc s)) p)) (eqb (who (suc s - 1)) p) (rw (ne_eqb (who (suc s)) p h)) (rw z (eq-eqb (who s) p e)))

  -- a start that counts, and holds no more than h
  abbrev Lower : ℕ → ℕ → Type 0
  Lower t h = (c : ℕ) × (c < length plan) × (start_tried rule plan p c ≡ true) × (held rule plan p t c ≤ h)

  -- back to the run's end before, or to the frame's start
  back : (t s : ℕ) → s < length plan → ¬ (who s ≡ p) → Lower t (held rule plan p t s)
  back t zero l h = (0, l, at_first, omega arith)
  back t (suc s) l h = go (back t s (omega arith)) (ℕ_discrete (who s) p)
    where
      go : (¬ (who s ≡ p) → Lower t (held rule plan p t s)) → Dec (who s ≡ p) → Lower t (held rule plan p t (suc s))
      go ih (yes e) = (suc s, l, at_end s h e, omega arith)
      go ih (no n) = let r = ih n in (r.0, r.1, r.2, omega (arith, r.3, earlier t s n))

  -- on to the run's end, or to the next frame's start
  on : (g t s : ℕ) → g + suc s ≡ length plan → who s ≡ p → Lower t (held rule plan p t s)
  on zero t s e h =
      let f : suc s ≡ length plan = omega arith in
      let z : held rule plan p t 0 ≡ held rule plan p t (suc s) = rw f (ap (held rule plan p t) (sym (mod_self (length plan))) ∙ held_around rule plan p t (length plan)) in
      (0, omega arith, at_first, omega (arith, z, later t s h))
  on (suc g) t s e h = go (on g t (suc s) (omega arith)) (ℕ_discrete (who (suc s)) p)
    where
      go : (who (suc s) ≡ p → Lower t (held rule plan p t (suc s))) → Dec (who (suc s) ≡ p) → Lower t (held rule plan p t s)
      go ih (yes m) = let r = ih m in (r.0, r.1, r.2, omega (arith, r.3, later t s h))
      go ih (no n) = (suc s, omega arith, at_end s n h, later t s h)

pub worst_start_lem : WorstStart
worst_start_lem rule plan p t s l = go (ℕ_discrete (service rule plan s) p)
  where
    go : Dec (service rule plan s ≡ p) → (c : ℕ) × (c < length plan) × (start_tried rule plan p c ≡ true) × (held rule plan p t c ≤ held rule plan p t s)
    go (yes e) = on rule plan p (length plan - suc s) t s (omega arith) e
    go (no n) = back rule plan p t s l n

-- ---- behind a run, wherever in the repeated plan

module _ (rule : Rule) (plan : List ℕ) (p t : ℕ) where
  abbrev f : ℕ
  f = length plan

  abbrev runs : ℕ → ℕ
  runs = service rule plan

  -- so many frames later all is the same
  service-later : (k s : ℕ) → runs (s + k * f) ≡ runs s
  service-later k s = sym (service-place rule plan (s + k * f)) ∙ ap runs (add-mul-mod_self_right s k f) ∙ service-place rule plan s

  held-later : (k s : ℕ) → held rule plan p t (s + k * f) ≡ held rule plan p t s
  held-later k s = sym (held_around rule plan p t (s + k * f)) ∙ ap (held rule plan p t) (add-mul-mod_self_right s k f) ∙ held_around rule plan p t s

  enough : (k : ℕ) → 0 < f → k ≤ k * f
  enough k h = let m : k * 1 ≤ k * f = mul-le-mul_left k h in omega (arith, mul-one k)

  -- a start right behind a run that holds no more than h
  abbrev Behind : ℕ → Type 0
  Behind h = (c : ℕ) × (runs c ≡ p) × ¬ (runs (suc c) ≡ p) × (held rule plan p t (suc c) ≤ h)

  ahead : (g s : ℕ) → runs s ≡ p → ¬ (runs (s + g) ≡ p) → Behind (held rule plan p t s)
  ahead zero s e n = absurd (n (ap runs (add-zero s) ∙ e))
  ahead (suc g) s e n = go (ahead g (suc s)) (ℕ_discrete (runs (suc s)) p)
    where
      go : (runs (suc s) ≡ p → ¬ (runs (suc s + g) ≡ p) → Behind (held rule plan p t (suc s))) → Dec (runs (suc s) ≡ p) → Behind (held rule plan p t s)
      go ih (yes m) =
          let z : s + suc g ≡ suc s + g = omega arith in
          let r = ih m (λ q. n (ap runs z ∙ q)) in
          (r.0, r.1, r.2, omega (arith, r.3, later rule plan p t s e))
      go ih (no k) = (s, e, k, later rule plan p t s e)

  before : (g a : ℕ) → runs a ≡ p → ¬ (runs (a + g) ≡ p) → Behind (held rule plan p t (a + g))
  before zero a e n = absurd (n (ap runs (add-zero a) ∙ e))
  before (suc g) a e n = rw add-suc (go (before g a e) (ℕ_discrete (runs (a + g)) p))
    where
      last : ¬ (runs (suc (a + g)) ≡ p)
      last q = n (ap runs (add-suc a g) ∙ q)

      go : (¬ (runs (a + g) ≡ p) → Behind (held rule plan p t (a + g))) → Dec (runs (a + g) ≡ p) → Behind (held rule plan p t (suc (a + g)))
      go ih (yes m) = (a + g, m, last, omega arith)
      go ih (no k) = let r = ih k in (r.0, r.1, r.2, omega (arith, r.3, earlier rule plan p t (a + g) k))

pub worst_behind_run : WorstBehindRun
worst_behind_run rule plan p t s a b pos own other = go (ℕ_discrete (service rule plan s) p)
  where
    go : Dec (service rule plan s ≡ p) → (c : ℕ) × (service rule plan c ≡ p) × ¬ (service rule plan (suc c) ≡ p) × (held rule plan p t (suc c) ≤ held rule plan p t s)
    go (yes e) =
        let z : s + (b + s * length plan - s) ≡ b + s * length plan = omega (arith, enough rule plan p t s pos) in
        ahead rule plan p t (b + s * length plan - s) s e (λ q. other (sym (service-later rule plan p t s b) ∙ sym (ap (service rule plan) z) ∙ q))
    go (no n) =
        let z : a + (s + a * length plan - a) ≡ s + a * length plan = omega (arith, enough rule plan p t a pos) in
        let r = before rule plan p t (s + a * length plan - a) a own (λ q. n (sym (service-later rule plan p t a s) ∙ sym (ap (service rule plan) z) ∙ q)) in
        let h : held rule plan p t (a + (s + a * length plan - a)) ≡ held rule plan p t s = ap (held rule plan p t) z ∙ held-later rule plan p t a s in
        (r.0, r.1, r.2, omega (arith, r.3, h))
