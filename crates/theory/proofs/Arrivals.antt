-- Releases a period apart, ticks that run a job, and the work released before a time. Assumes nothing.
use mathlib.Core.Path.{◌≡◌, refl, sym, ap, ap₂, ◌∙◌, subst}
use mathlib.Core.Logic.{◌⊎◌, inl, inr}
use mathlib.Core.Bool.{Bool, true, false}
use Prim.Native.Nat.{ℕ, zero, suc, ◌+◌, ◌*◌, ◌≤◌, ◌<◌, zero-le}
use native.Mathlib.Nat.{add_assoc}
use native.Mathlib.Omega.{arith}
use lib.Dec.{T, eqb, ltb, eqb→eq, eqb_refl, ltb→lt, lt→ltb}
use Rattle.rules.specs.Walk.{only, sum, round_up}
use Rattle.rules.proofs.Sum.{only-T, only-F, only_pos, only_self, sum_split, sum_mono, sum-find, sum-none, le-or-lt}
use Rattle.rules.proofs.Round.{round_enough}
use Rattle.theory.specs.Run.{Ran, nothing, job, hit, done}

-- ---- releases a period apart: in t ticks at most t / T of them, rounded up

module _ (w : ℕ → ℕ) (C T' : ℕ) (within : (n : ℕ) → w n ≤ C) (apart : (a b : ℕ) → 0 < w a → 0 < w b → a < b → a + T' ≤ b) where
  once : (a t : ℕ) → t ≤ T' → sum (λ k. w (a + k)) t ≤ C
  unfolding sum
  once a zero h = zero-le
  once a (suc t) h = go (once a t (omega arith)) (le-or-lt (w (a + t)) 0) (le-or-lt (sum (λ k. w (a + k)) t) 0)
    where
      go : sum (λ k. w (a + k)) t ≤ C → (w (a + t) ≤ 0) ⊎ (0 < w (a + t)) → (sum (λ k. w (a + k)) t ≤ 0) ⊎ (0 < sum (λ k. w (a + k)) t) → sum (λ k. w (a + k)) t + w (a + t) ≤ C
      go ih (inl m) s = omega arith
      go ih (inr m) (inl s) = omega (arith, within (a + t))
      go ih (inr m) (inr s) =
          let f = sum-find t (λ k. 0) (λ k. w (a + k)) (omega (arith, sum-none t)) in
          omega (arith, apart (a + f.0) (a + t) f.2 m (omega (arith, f.1)), f.1)

  times : (a q : ℕ) → sum (λ k. w (a + k)) (q * T') ≤ C * q
  unfolding sum
  times a zero = let e : 0 * T' ≡ 0 = omega arith in rw e zero-le
  times a (suc q) =
      let e : suc q * T' ≡ q * T' + T' = omega arith in
      let o : sum (λ k. w (a + (q * T' + k))) T' ≤ C = simp (← add_assoc) (once (a + q * T') T' (omega arith)) in
      rw e (omega (arith, sum_split (q * T') T' (λ k. w (a + k)), times a q))

  pub window : (a t : ℕ) → 0 < T' → sum (λ k. w (a + k)) t ≤ C * round_up t T'
  window a t h = omega (arith, sum_mono (λ k. w (a + k)) {a = t} {b = round_up t T' * T'} (round_enough t T' h), times a (round_up t T'))

-- ---- hits

pub hit_cases : (x : Ran) (j r : ℕ) → (hit x j r ≡ 0) ⊎ ((x ≡ job j r) × (hit x j r ≡ 1))
unfolding hit only
hit_cases nothing j r = inl refl
hit_cases (job a b) j r = go (eqb a j) (eqb b r) refl refl
  where
    go : (u v : Bool) → eqb a j ≡ u → eqb b r ≡ v → (only u (only v 1) ≡ 0) ⊎ ((job a b ≡ job j r) × (only u (only v 1) ≡ 1))
    go true true e f = inr (ap₂ job (eqb→eq a j (subst T (sym e) tt)) (eqb→eq b r (subst T (sym f) tt)), refl)
    go true false e f = inl refl
    go false v e f = inl refl

hit_self : (j r : ℕ) → hit (job j r) j r ≡ 1
unfolding hit
hit_self j r = only-T (eqb j j) (only (eqb r r) 1) (eqb_refl j) ∙ only-T (eqb r r) 1 (eqb_refl r)

module _ (ran : ℕ → Ran) where
  pub done-suc : (j r n : ℕ) → done ran j r (suc n) ≡ done ran j r n + hit (ran n) j r
  unfolding done sum
  done-suc j r n = refl

  pub done_mono : (j r : ℕ) {m n : ℕ} → m ≤ n → done ran j r m ≤ done ran j r n
  unfolding done
  done_mono j r h = sum_mono (λ k. hit (ran k) j r) h

  pub done-hit : (j r n : ℕ) → ran n ≡ job j r → done ran j r (suc n) ≡ suc (done ran j r n)
  done-hit j r n e = omega (arith, done-suc j r n, ap (λ (x : Ran). hit x j r) e ∙ hit_self j r)

-- ---- the work of a job that is released before time n

pub due : (ℕ → ℕ → ℕ) → (ℕ → ℕ → ℕ) → ℕ → ℕ → ℕ → ℕ
due rel work j b n = only (ltb (rel j b) n) (work j b)

module _ (rel work : ℕ → ℕ → ℕ) where
  pub due_le : (j b n : ℕ) → due rel work j b n ≤ work j b
  unfolding due
  due_le j b n = only_self (ltb (rel j b) n) (work j b)

  pub due_in : (j b n : ℕ) → rel j b < n → due rel work j b n ≡ work j b
  unfolding due
  due_in j b n h = only-T (ltb (rel j b) n) (work j b) (lt→ltb (rel j b) n h)

  pub due_out : (j b n : ℕ) → n ≤ rel j b → due rel work j b n ≡ 0
  unfolding due
  due_out j b n h = only-F (ltb (rel j b) n) (work j b) (λ t. absurd (omega (arith, ltb→lt (rel j b) n t)))

  pub due_pos : (j b n : ℕ) → 0 < due rel work j b n → rel j b < n
  unfolding due
  due_pos j b n h = ltb→lt (rel j b) n (only_pos (ltb (rel j b) n) (work j b) h)

  pub due_mono : (j b m n : ℕ) → m ≤ n → due rel work j b m ≤ due rel work j b n
  due_mono j b m n h = go (le-or-lt m (rel j b))
    where
      go : (m ≤ rel j b) ⊎ (rel j b < m) → due rel work j b m ≤ due rel work j b n
      go (inl g) = omega (arith, due_out j b m g)
      go (inr g) = omega (arith, due_in j b m g, due_in j b n (omega arith))
