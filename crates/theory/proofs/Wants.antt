-- The ticks wanted: the smallest multiple of the granule that is enough, from 1 on, and less than a granule past the cycle. Assumes nothing.
use mathlib.Core.Path.{◌≡◌, refl}
use mathlib.Core.Logic.{◌⊎◌, inl, inr}
use Prim.Native.Nat.{ℕ, ◌+◌, ◌*◌, ◌≤◌, ◌<◌}
use native.Mathlib.Nat.{div-zero, le_refl, mul_assoc, mul_comm, mul-le-mul, mul-le-mul_right, mul-one, mul-pos, zero-mul}
use native.Mathlib.Omega.{arith}
use Rattle.rules.specs.Limits.{finest_share}
use Rattle.rules.specs.Walk.{round_up}
use Rattle.rules.specs.Table.{wants}
use Rattle.rules.proofs.Sum.{le-or-lt}
use Rattle.rules.proofs.Round.{round_enough, round_least, round_most}
use Rattle.rules.proofs.Tests.{good-granule, good_share_lem}
use Rattle.theory.specs.Theorems.{WantsSmallest, WantsRange, WantsWhole, WantsNoLess}

-- c granules, as a number of ticks
swap : (c d g : ℕ) → c * (d * g) ≡ c * g * d
swap c d g = rw (mul_comm d g, ← mul_assoc)

pub wants_smallest : WantsSmallest
unfolding wants
wants_smallest g m n d h k =
    let p : 0 < d * g = mul-pos k h in (
      (round_up (n * m) (d * g), refl),
      rw (← swap (round_up (n * m) (d * g)) d g) (round_enough (n * m) (d * g) p),
      λ c l. mul-le-mul_right g (round_least (n * m) (d * g) c p (rw swap l)),
    )

pub wants_range : WantsRange
wants_range limit g m n d granule good = (some (le-or-lt 1 (wants g m n d)), low)
  where
    a : (1 ≤ m) × (m ≤ limit) × (1 ≤ n) × (n ≤ d) × (d ≤ finest_share)
    a = good_share_lem limit m n d good

    positive : 0 < d
    positive = omega (arith, a.2, a.3)

    grain : 0 < g
    grain = (good-granule g granule).0

    -- as many granules as the cycle needs are enough
    low : wants g m n d < m + g
    low =
        let c = round_up m g in
        let e : n * m ≤ d * m = mul-le-mul_right m a.3 in
        let f : m * d ≤ c * g * d = mul-le-mul_right d (round_enough m g grain) in
        omega (arith, (wants_smallest g m n d grain positive).2 c (omega (arith, e, f, mul_comm d m)), round_most m g grain)

    -- none would be enough for nothing only
    some : (1 ≤ wants g m n d) ⊎ (wants g m n d < 1) → 1 ≤ wants g m n d
    some (inl h) = h
    some (inr h) =
        let z : wants g m n d ≤ 0 = omega arith in
        let e : wants g m n d * d ≤ 0 * d = mul-le-mul z (le_refl d) in
        let f : 1 * 1 ≤ n * m = mul-le-mul a.2 a.0 in
        absurd (omega (arith, (wants_smallest g m n d grain positive).1))

pub wants_whole : WantsWhole
unfolding wants
wants_whole m n d = simp mul-one

-- a share over 0 asks for nothing
wants-none : (g m n : ℕ) → wants g m n 0 ≡ 0
unfolding wants round_up
wants-none g m n = rw (zero-mul, div-zero) (zero-mul g)

pub wants_no_less : WantsNoLess
wants_no_less g m n d h = go (le-or-lt d 0)
  where
    go : (d ≤ 0) ⊎ (0 < d) → wants 1 m n d ≤ wants g m n d
    go (inl l) = let z : d ≡ 0 = omega arith in rw z (omega (arith, wants-none 1 m n))
    go (inr l) =
        let q = wants g m n d in
        let e : q * 1 ≡ q = mul-one q in
        omega (arith, e, (wants_smallest 1 m n d (omega arith) l).2 q (rw e (wants_smallest g m n d h l).1))
