-- Laws of the smallest and the largest of several numbers. Assumes nothing.
use Prim.Native.Nat.{ℕ, zero, suc, ◌+◌, ◌≤◌, ◌<◌, min, max}
use mathlib.Core.Path.{◌≡◌, refl}
use mathlib.Core.Logic.{⊎_elim}
use native.Mathlib.Nat.{not-suc-le-zero, le_of_suc-le-suc, eq-or-lt_of_le}
use native.Mathlib.Numerals.{add-one}
use native.Mathlib.Decide.{dec_le}
use native.Mathlib.Omega.{arith}
use Rattle.rules.specs.Walk.{smallest, largest}

module _ (f : ℕ → ℕ) where
  pub smallest-zero : smallest f 0 ≡ f 0
  unfolding smallest
  smallest-zero = refl

  pub smallest_more : (i : ℕ) → smallest f (i + 1) ≡ min (smallest f i) (f i)
  unfolding smallest
  smallest_more i = rw add-one

  pub smallest-le : (n i : ℕ) → i < n → smallest f n ≤ f i
  unfolding smallest
  smallest-le zero i l = omega arith
  smallest-le (suc n) i l = ⊎_elim (λ e. rw e (omega arith)) (λ h. omega (arith, smallest-le n i h)) (eq-or-lt_of_le (le_of_suc-le-suc l))

  -- the smallest is one of them
  pub smallest_is : (n : ℕ) → 0 < n → (i : ℕ) × (i < n) × (f i ≡ smallest f n)
  unfolding smallest
  smallest_is zero l = absurd (not-suc-le-zero l)
  smallest_is (suc zero) l = (0, omega arith, omega arith)
  smallest_is (suc (suc n)) l = step (dec_le (smallest f (suc n)) (f (suc n))) (smallest_is (suc n) (omega arith))
    where
      step : Dec (smallest f (suc n) ≤ f (suc n)) → (i : ℕ) × (i < suc n) × (f i ≡ smallest f (suc n)) → (i : ℕ) × (i < suc (suc n)) × (f i ≡ min (smallest f (suc n)) (f (suc n)))
      step (yes h) r = (r.0, omega arith, omega arith)
      step (no h) r = (suc n, omega arith, omega arith)

  pub largest-zero : largest f 0 ≡ 0
  unfolding largest
  largest-zero = refl

  pub largest_more : (i : ℕ) → largest f (i + 1) ≡ max (largest f i) (f i)
  unfolding largest
  largest_more i = rw add-one

  pub largest-le : (n i : ℕ) → i < n → f i ≤ largest f n
  unfolding largest
  largest-le zero i l = absurd (not-suc-le-zero l)
  largest-le (suc n) i l = ⊎_elim (λ e. rw e (omega arith)) (λ h. omega (arith, largest-le n i h)) (eq-or-lt_of_le (le_of_suc-le-suc l))

  -- the largest is one of them
  pub largest_is : (n : ℕ) → 0 < n → (i : ℕ) × (i < n) × (f i ≡ largest f n)
  unfolding largest
  largest_is zero l = absurd (not-suc-le-zero l)
  largest_is (suc zero) l = (0, omega arith, omega arith)
  largest_is (suc (suc n)) l = step (dec_le (largest f (suc n)) (f (suc n))) (largest_is (suc n) (omega arith))
    where
      step : Dec (largest f (suc n) ≤ f (suc n)) → (i : ℕ) × (i < suc n) × (f i ≡ largest f (suc n)) → (i : ℕ) × (i < suc (suc n)) × (f i ≡ max (largest f (suc n)) (f (suc n)))
      step (yes h) r = (suc n, omega arith, omega arith)
      step (no h) r = (r.0, omega arith, omega arith)

-- pointwise smaller has the smaller minimum
pub smallest_mono : (n : ℕ) (f g : ℕ → ℕ) → ((i : ℕ) → f i ≤ g i) → smallest f n ≤ smallest g n
unfolding smallest
smallest_mono zero f g h = h 0
smallest_mono (suc n) f g h = omega (arith, smallest_mono n f g h, h n)
