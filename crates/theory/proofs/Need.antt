-- Stretches of owned ticks; and the necessity half of the harmonic rule: where any plan serves, the sum of q·H/m is at most H. Assumes nothing.
use mathlib.Core.Path.{◌≡◌, ◌∙◌, subst}
use Prim.Native.Nat.{ℕ, zero, suc, ◌+◌, ◌*◌, ◌/◌, ◌%◌, ◌≤◌, ◌<◌}
use native.Mathlib.Nat.{add_assoc, suc-mul, div-add-mod'}
use native.Mathlib.Omega.{arith}
use lib.Dec.{eqb}
use Rattle.rules.specs.Walk.{only, sum, count}
use Rattle.rules.proofs.Sum.{sum-le, sum-add, sum_split, sum-none, sum_one}
use Rattle.theory.specs.Plan.{owned}

module _ (o : ℕ → ℕ) where
  pub owned_split : (p a s t : ℕ) → owned o p (s + t) a ≡ owned o p s a + owned o p t (a + s)
  unfolding owned count
  owned_split p a s t = sum_split s t (λ k. only (eqb (o (a + k)) p) 1) ∙ simp add_assoc

  -- c cycles one after another
  cycles : (p q m : ℕ) → ((a : ℕ) → q ≤ owned o p m a) → (c a : ℕ) → q * c ≤ owned o p (c * m) a
  cycles p q m h zero a = omega arith
  cycles p q m h (suc c) a = rw suc-mul (omega (arith, owned_split p a (c * m) m, cycles p q m h c a, h (a + c * m)))

  -- no tick has two owners
  pub owned_total : (n a t : ℕ) → sum (λ k. owned o (k + 1) t a) n ≤ t
  unfolding owned count sum
  owned_total n a zero = omega (arith, sum-none n)
  owned_total n a (suc t) =
      omega (
        arith,
        sum-add n (λ k. owned o (k + 1) t a) (λ k. only (eqb (o (a + t)) (k + 1)) 1),
        owned_total n a t,
        sum_one n (o (a + t)) (λ k. k + 1) (λ i j l m e. omega arith) 1,
      )

  -- whatever is wanted, if every stretch of a cycle holds it, then H ticks hold all of it
  pub needed : (want cyc : ℕ → ℕ) (n H : ℕ) → ((k : ℕ) → k < n → H % cyc k ≡ 0)
      → ((k s : ℕ) → k < n → want k ≤ owned o (k + 1) (cyc k) s)
      → sum (λ k. want k * (H / cyc k)) n ≤ H
  needed want cyc n H d s =
      omega (
        arith,
        owned_total n 0 H,
        sum-le n (λ k. want k * (H / cyc k)) (λ k. owned o (k + 1) H 0) (λ k l.
            let e : H / cyc k * cyc k ≡ H = omega (arith, div-add-mod' H (cyc k), d k l) in
            subst (λ (x : ℕ). want k * (H / cyc k) ≤ owned o (k + 1) x 0) e (cycles (k + 1) (want k) (cyc k) (λ a. s k a l) (H / cyc k) 0)),
      )
