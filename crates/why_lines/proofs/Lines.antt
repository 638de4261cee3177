-- How many digits a number has, the column that it ends, and how long the lines are. Assumes nothing.
use Prim.Native.Nat.{ℕ, zero, suc, ◌+◌, ◌-◌, ◌*◌, ◌/◌, ◌%◌, ◌≤◌, ◌<◌, ◌^◌, max}
use mathlib.Core.Path.{◌≡◌, refl, sym, ap, ◌∙◌}
use mathlib.Core.Logic.{◌⊎◌, inl, inr}
use Rattle.std.proofs.Math.Nat.{pow-succ'}
use Rattle.rules.proofs.Sum.{le-or-lt}
use mathlib.Core.Bool.{Bool, true, false}
use mathlib.Core.List.{List, [], ◌∷◌, ◌++◌}
use native.Mathlib.Omega.{arith}
use lib.ListN.{length, take, replicate, length-append, length-replicate}
use lib.Dec.{eqb}
use Rattle.output.specs.Put.{Put}
use Rattle.output.specs.Decimal.{decimal}
use Rattle.output.proofs.Decimal.{decimal-one, decimal_more, decimal_ten, decimal_five}
use Rattle.rules.specs.Limits.{longest_line}
use Rattle.why_lines.specs.Lines.{column_width, padded, columns, window, mark, row_line, tick_words, spare_line, short_line}

pub digits_last : (n : ℕ) → n < 10 → length (decimal n) ≡ 1
digits_last n h = rw (decimal-one n h)

pub digits_more : (n : ℕ) → 10 ≤ n → length (decimal n) ≡ length (decimal (n / 10)) + 1
digits_more n h = rw (decimal_more n h, length-append (decimal (n / 10)) ((48 + n % 10) ∷ []))

tens-pos : (k : ℕ) → 0 < 10 ^ k
tens-pos zero = omega arith
tens-pos (suc k) = omega (arith, tens-pos k, pow-succ' 10 k)

-- from ten to the power k on, and below ten times that
digits_from : (k n : ℕ) → 10 ^ k ≤ n → n < 10 * 10 ^ k → length (decimal n) ≡ k + 1
digits_from zero n l h = digits_last n (omega arith)
digits_from (suc k) n l h =
    digits_more n (omega (arith, tens-pos k, pow-succ' 10 k))
    ∙ ap (λ (x : ℕ). x + 1) (digits_from k (n / 10) (omega (arith, pow-succ' 10 k)) (omega (arith, pow-succ' 10 k))) ∙ omega arith

-- 0 has as many as 1
pub digits_are : (k m n : ℕ) → m ≡ max n 1 → 10 ^ k ≤ m → m < 10 * 10 ^ k → length (decimal n) ≡ k + 1
digits_are k m n e l h = go (le-or-lt 1 n)
  where
    go : (1 ≤ n) ⊎ (n < 1) → length (decimal n) ≡ k + 1
    go (inl p) = let q : m ≡ n = omega (arith, e) in digits_from k n (rw q at l) (rw q at h)
    go (inr p) =
        let z : n ≡ 0 = omega arith in
        let q : m ≡ 1 = omega (arith, e) in
        rw z (digits_last 0 (omega arith) ∙ sym (digits_last 1 (omega arith)) ∙ digits_from k 1 (rw q at l) (rw q at h))

take_replicate : (k n x : ℕ) → k ≤ n → take k (replicate n x) ≡ replicate k x
take_replicate zero n x h = refl
take_replicate (suc k) zero x h = absurd (omega arith)
take_replicate (suc k) (suc n) x h = ap (λ (l : List ℕ). x ∷ l) (take_replicate k n x (omega arith))

-- a number that ends its column, at the numbers that the code holds
pub padded_is : (n k g : ℕ) → k ≡ length (decimal n) → g ≡ column_width - k → take g (replicate column_width 32) ++ decimal n ≡ padded n
unfolding padded
padded_is n k g ek eg = rw (take_replicate g column_width 32 (omega arith), eg, ek)

-- ---- how long

pub within : {l o s : List ℕ} {i r : ℕ} → Put l i s r o → length s ≤ longest_line → r ≤ i + longest_line
within p h = omega (arith, p.place)

padded-long : (n : ℕ) → n < 2 ^ 33 → length (padded n) ≤ 10
unfolding padded
padded-long n h =
    let d = decimal_ten n (omega arith) in
    rw (length-append (replicate (column_width - length (decimal n)) 32) (decimal n), length-replicate {A = ℕ} (column_width - length (decimal n)) 32) (omega arith)

mark-long : (b : Bool) → length (mark b) ≤ 14
mark-long true = omega arith
mark-long false = omega arith

pub row-long : (u t n h s : ℕ) → t < 2 ^ 32 → n < 2 ^ 32 → h < 2 ^ 32 → s < 2 ^ 32 → length (row_line u t n h s) ≤ longest_line
unfolding row_line columns window
row-long u t n h s lt ln lh ls =
    let a = padded-long t (omega arith) in
    let b = padded-long n (omega arith) in
    let c = padded-long h (omega arith) in
    let d = padded-long (n - h) (omega arith) in
    let e = decimal_ten s (omega arith) in
    let f = decimal_ten (s + t - 1) (omega arith) in
    let g = mark-long (eqb t u) in
    simp length-append (omega arith)

pub spare_long : (t n h : ℕ) → t < 2 ^ 16 → n < 2 ^ 33 → h < 2 ^ 33 → length (spare_line t n h) ≤ longest_line
unfolding spare_line tick_words
spare_long t n h lt ln lh =
    let a = decimal_five t (omega arith) in
    let b = decimal_ten n (omega arith) in
    let c = decimal_ten h (omega arith) in
    let d = decimal_ten (h - n) (omega arith) in
    simp length-append (omega arith)

pub short-long : (t n h s : ℕ) → t < 2 ^ 16 → n < 2 ^ 33 → h < 2 ^ 33 → s < 2 ^ 33 → length (short_line t n h s) ≤ longest_line
unfolding short_line tick_words
short-long t n h s lt ln lh ls =
    let a = decimal_five t (omega arith) in
    let b = decimal_ten n (omega arith) in
    let c = decimal_ten h (omega arith) in
    let d = decimal_ten (n - h) (omega arith) in
    let e = decimal_ten s (omega arith) in
    simp length-append (omega arith)
