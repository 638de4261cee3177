-- Bounds: what a place wants stays below 2 ^ 53, so the sum over 16 places fits in 64 bits. Assumes nothing.
use Prim.Native.Nat.{ℕ, ◌+◌, ◌-◌, ◌*◌, ◌/◌, ◌^◌, ◌≤◌, ◌<◌}
use mathlib.Core.Path.{◌≡◌, sym, ◌∙◌}
use mathlib.Core.List.{List}
use native.Mathlib.Nat.{mul-le-mul, div-le_self, div-zero}
use native.Mathlib.Omega.{arith}
use Rattle.rules.specs.Walk.{round_up}
use Rattle.rules.specs.Limits.{most_granule}
use Rattle.rules.specs.Table.{cycle, wants}
use Rattle.theory.specs.Inner.{wanted_in}

wants-small : (g m n d : ℕ) → g ≤ most_granule → m < 2 ^ 16 → n < 2 ^ 16 → d < 2 ^ 16 → wants g m n d < 2 ^ 37
unfolding wants round_up
wants-small g m n d hg hm hn hd =
    let a : n ≤ 2 ^ 16 - 1 = omega arith in
    let b : m ≤ 2 ^ 16 - 1 = omega arith in
    let c : d ≤ 2 ^ 16 - 1 = omega arith in
    let p : n * m ≤ (2 ^ 16 - 1) * (2 ^ 16 - 1) = mul-le-mul a b in
    let r : d * g ≤ (2 ^ 16 - 1) * most_granule = mul-le-mul c hg in
    let l : (n * m + (d * g - 1)) / (d * g) ≤ 2 ^ 33 - 1 = omega (arith, div-le_self (n * m + (d * g - 1)) (d * g)) in
    let s : (n * m + (d * g - 1)) / (d * g) * g ≤ (2 ^ 33 - 1) * most_granule = mul-le-mul l hg in
    omega arith

-- what the code multiplies
pub wanted_in-small : (g m n d q h w : ℕ) → g ≤ most_granule → m < 2 ^ 16 → n < 2 ^ 16 → d < 2 ^ 16 → h < 2 ^ 16 → q ≡ wants g m n d → q * (h / w) < 2 ^ 53
wanted_in-small g m n d q h w hg hm hn hd hh e =
    let a : q ≤ 2 ^ 37 - 1 = omega (arith, wants-small g m n d hg hm hn hd) in
    let b : h / w ≤ 2 ^ 16 - 1 = omega (arith, div-le_self h w) in
    let p : q * (h / w) ≤ (2 ^ 37 - 1) * (2 ^ 16 - 1) = mul-le-mul a b in
    omega arith

module _ (q : ℕ → ℕ) (ps : List ℕ) (h k m : ℕ) (em : m ≡ cycle ps k) where
  -- a cycle of 0 wants nothing
  pub wanted_in-none : m ≡ 0 → 0 ≡ wanted_in q ps h k
  wanted_in-none z = let c : cycle ps k ≡ 0 = sym em ∙ z in rw (c, div-zero h) (omega arith)

  pub wanted_in_is : (n w : ℕ) → n ≡ m → w ≡ q k → w * (h / n) ≡ wanted_in q ps h k
  wanted_in_is n w en ew = rw (← ew, ← em, en)
