-- Division rounded up: the smallest q with x ≤ q·y. Assumes nothing.
use mathlib.Core.Path.{◌≡◌, subst}
use mathlib.Core.Logic.{◌⊎◌, inl, inr}
use Prim.Native.Nat.{ℕ, suc, ◌+◌, ◌-◌, ◌*◌, ◌/◌, ◌%◌, ◌≤◌, ◌<◌}
use native.Mathlib.Nat.{div-lt_iff_lt-mul, lt-div-mul-add, mod-lt, mul_assoc, mul_comm, mul-mod_left, mul-le-mul_right, mul-pos, suc-mul, div-add-mod'}
use native.Mathlib.Omega.{arith}
use Rattle.rules.specs.Walk.{round_up}
use Rattle.rules.proofs.Sum.{le-or-lt}

-- it is enough
pub round_enough : (x y : ℕ) → 0 < y → x ≤ round_up x y * y
unfolding round_up
round_enough x y h = omega (arith, lt-div-mul-add {a = x + (y - 1)} {b = y} h)

-- no smaller number is
pub round_least : (x y q : ℕ) → 0 < y → x ≤ q * y → round_up x y ≤ q
unfolding round_up
round_least x y q h l = omega (arith, (div-lt_iff_lt-mul {k = y} {x = x + (y - 1)} {y = suc q} h).1 (omega arith))

pub round_mono : (x z y : ℕ) → 0 < y → x ≤ z → round_up x y ≤ round_up z y
round_mono x z y h l = round_least x y (round_up z y) h (omega (arith, round_enough z y h))

-- a multiple: it rises behind it
pub round_multiple : (x y : ℕ) → 0 < y → x % y ≡ 0 → round_up x y * y ≡ x
round_multiple x y h e =
    let d : x / y * y ≡ x = omega (arith, div-add-mod' x y) in
    let l : round_up x y ≤ x / y = round_least x y (x / y) h (omega arith) in
    let m : round_up x y * y ≤ x / y * y = mul-le-mul_right y l in
    omega (arith, round_enough x y h)

pub round_due : (x y : ℕ) → 0 < y → round_up x y * y ≡ x → round_up (suc x) y ≡ round_up x y + 1
round_due x y h e = go (le-or-lt (round_up (suc x) y) (round_up x y))
  where
    upto : round_up (suc x) y ≤ suc (round_up x y)
    upto = round_least (suc x) y (suc (round_up x y)) h (omega (arith, suc-mul (round_up x y) y))

    go : (round_up (suc x) y ≤ round_up x y) ⊎ (round_up x y < round_up (suc x) y) → round_up (suc x) y ≡ round_up x y + 1
    go (inl l) =
        let m : round_up (suc x) y * y ≤ round_up x y * y = mul-le-mul_right y l in
        absurd (omega (arith, round_enough (suc x) y h))
    go (inr l) = omega (arith, upto)

round_same : (x y : ℕ) → 0 < y → ¬ (round_up x y * y ≡ x) → round_up (suc x) y ≡ round_up x y
round_same x y h n = go (le-or-lt (round_up x y * y) x)
  where
    go : (round_up x y * y ≤ x) ⊎ (x < round_up x y * y) → round_up (suc x) y ≡ round_up x y
    go (inl l) = let e : round_up x y * y ≡ x = omega (arith, round_enough x y h) in absurd (n e)
    go (inr l) = omega (arith, round_least (suc x) y (round_up x y) h l, round_mono x (suc x) y h (omega arith))

-- it rises only behind a multiple
pub round_suc : (x y : ℕ) → 0 < y → ¬ (x % y ≡ 0) → round_up (suc x) y ≤ round_up x y
round_suc x y h n =
    let e : round_up (suc x) y ≡ round_up x y = round_same x y h (λ e. n (subst (λ (k : ℕ). k % y ≡ 0) e (mul-mod_left (round_up x y) y))) in
    omega arith

-- twice, and at once
pub round_round : (x y z : ℕ) → 0 < y → 0 < z → round_up x (y * z) ≡ round_up (round_up x y) z
round_round x y z h k = go
  where
    twice : ℕ
    twice = round_up (round_up x y) z

    once : ℕ
    once = round_up x (y * z)

    swap : (q : ℕ) → q * (y * z) ≡ q * z * y
    swap q = rw (mul_comm y z, ← mul_assoc)

    positive : 0 < y * z
    positive = mul-pos h k

    upto : once ≤ twice
    upto =
        let m : round_up x y * y ≤ twice * z * y = mul-le-mul_right y (round_enough (round_up x y) z k) in
        round_least x (y * z) twice positive (omega (arith, swap twice, round_enough x y h))

    from : twice ≤ once
    from = round_least (round_up x y) z once k (round_least x y (once * z) h (omega (arith, swap once, round_enough x (y * z) positive)))

    go : once ≡ twice
    go = omega (arith, upto, from)

-- by what stands over the last multiple
pub round_over : (x y : ℕ) → 0 < y → ¬ (x % y ≡ 0) → round_up x y * y ≡ x - x % y + y
round_over x y h n = go (le-or-lt (round_up x y) (x / y))
  where
    whole : x / y * y + x % y ≡ x
    whole = div-add-mod' x y

    over : x % y < y
    over = mod-lt x h

    upto : round_up x y ≤ suc (x / y)
    upto = round_least x y (suc (x / y)) h (omega (arith, whole, over, suc-mul (x / y) y))

    go : (round_up x y ≤ x / y) ⊎ (x / y < round_up x y) → round_up x y * y ≡ x - x % y + y
    go (inl l) =
        let m : round_up x y * y ≤ x / y * y = mul-le-mul_right y l in
        absurd (n (omega (arith, whole, round_enough x y h)))
    go (inr l) =
        let e : round_up x y ≡ suc (x / y) = omega (arith, upto) in
        rw e (omega (arith, whole, suc-mul (x / y) y))

pub round_most : (x y : ℕ) → 0 < y → round_up x y * y < x + y
unfolding round_up
round_most x y h = omega (arith, div-add-mod' (x + (y - 1)) y)
