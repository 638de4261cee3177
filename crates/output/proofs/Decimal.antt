-- Laws of decimals: what a call of the printer says, how long a number is, and that the digits say the number. Assumes nothing.
use Prim.Native.Nat.{ℕ, zero, suc, ◌+◌, ◌-◌, ◌*◌, ◌/◌, ◌%◌, ◌≤◌, ◌<◌, ◌^◌}
use mathlib.Core.Path.{◌≡◌, refl, ◌∙◌}
use mathlib.Core.Bool.{Bool, true, false}
use mathlib.Core.Logic.{◌⊎◌, inl, inr}
use mathlib.Core.List.{List, [], ◌∷◌, ◌++◌}
use native.Mathlib.Omega.{arith}
use lib.ListN.{length, length-append}
use lib.Dec.{ltb}
use borrow.Author.Tests.{lt-ltb, le-ltb, ltb-false}
use Rattle.rules.specs.Walk.{pick}
use Rattle.rules.proofs.Sum.{le-or-lt}
use Rattle.output.specs.Decimal.{digits, decimal, value}

digits_fuel : (f g n : ℕ) → n ≤ f → n ≤ g → digits f n ≡ digits g n
unfolding digits
digits_fuel zero zero n hf hg = refl
digits_fuel zero (suc g) n hf hg = rw (lt-ltb n 10 (omega arith))
digits_fuel (suc f) zero n hf hg = rw (lt-ltb n 10 (omega arith))
digits_fuel (suc f) (suc g) n hf hg = step (λ l. digits_fuel f g (n / 10) (omega arith) (omega arith)) (ltb n 10) refl
  where
    step : (10 ≤ n → digits f (n / 10) ≡ digits g (n / 10)) → (b : Bool) → ltb n 10 ≡ b
        → pick b ((48 + n) ∷ []) (digits f (n / 10) ++ ((48 + n % 10) ∷ [])) ≡ pick b ((48 + n) ∷ []) (digits g (n / 10) ++ ((48 + n % 10) ∷ []))
    step ih true e = refl
    step ih false e = rw (ih (ltb-false n 10 e))

pub decimal-one : (n : ℕ) → n < 10 → decimal n ≡ (48 + n) ∷ []
unfolding decimal digits
decimal-one zero h = refl
decimal-one (suc n) h = rw (lt-ltb (suc n) 10 h)

pub decimal_more : (n : ℕ) → 10 ≤ n → decimal n ≡ decimal (n / 10) ++ ((48 + n % 10) ∷ [])
unfolding decimal digits
decimal_more zero h = absurd (omega arith)
decimal_more (suc n) h = rw (le-ltb (suc n) 10 h, digits_fuel n (suc n / 10) (suc n / 10) (omega arith) (omega arith))

-- ---- how long

unfoldable tens : ℕ → ℕ
tens zero = 1
tens (suc d) = 10 * tens d

decimal_below : (d n : ℕ) → n < tens (suc d) → length (decimal n) ≤ suc d
unfolding tens
decimal_below zero n h = rw (decimal-one n h) (omega arith)
decimal_below (suc d) n h = step (λ l. decimal_below d (n / 10) (omega arith)) (le-or-lt 10 n)
  where
    step : (10 ≤ n → length (decimal (n / 10)) ≤ suc d) → (10 ≤ n) ⊎ (n < 10) → length (decimal n) ≤ suc (suc d)
    step ih (inl l) = rw (decimal_more n l, length-append (decimal (n / 10)) ((48 + n % 10) ∷ [])) (omega (arith, ih l))
    step ih (inr l) = rw (decimal-one n l) (omega arith)

pub decimal-length : (n : ℕ) → n < 2 ^ 64 → length (decimal n) ≤ 20
unfolding tens
decimal-length n h = decimal_below 19 n (omega arith)

pub decimal_ten : (n : ℕ) → n < 10000000000 → length (decimal n) ≤ 10
unfolding tens
decimal_ten n h = decimal_below 9 n (omega arith)

pub decimal_five : (n : ℕ) → n < 100000 → length (decimal n) ≤ 5
unfolding tens
decimal_five n h = decimal_below 4 n (omega arith)

-- ---- the digits say the number, and the first of several is no 0

pub value-append : (a b : List ℕ) (v : ℕ) → value (a ++ b) v ≡ value b (value a v)
unfolding value
value-append [] b v = refl
value-append (d ∷ a) b v = value-append a b (v * 10 + (d - 48))

digits_value : (f n : ℕ) → n ≤ f → value (digits f n) 0 ≡ n
unfolding value digits
digits_value zero n h = omega arith
digits_value (suc f) n h = step (λ l. digits_value f (n / 10) (omega arith)) (ltb n 10) refl
  where
    step : (10 ≤ n → value (digits f (n / 10)) 0 ≡ n / 10) → (b : Bool) → ltb n 10 ≡ b → value (pick b ((48 + n) ∷ []) (digits f (n / 10) ++ ((48 + n % 10) ∷ []))) 0 ≡ n
    step ih true e = omega arith
    step ih false e = value-append (digits f (n / 10)) ((48 + n % 10) ∷ []) 0 ∙ rw (ih (ltb-false n 10 e)) (omega arith)

pub decimal-value : (n : ℕ) → value (decimal n) 0 ≡ n
unfolding decimal
decimal-value n = digits_value n n (omega arith)

-- the first of appended lists
head_append : (a b : List ℕ) (x : ℕ) (xs : List ℕ) → a ≡ x ∷ xs → a ++ b ≡ x ∷ (xs ++ b)
head_append a b x xs e = rw e

digits-first : (f n : ℕ) → n ≤ f → 1 ≤ n → (d : ℕ) × (ds : List ℕ) × (49 ≤ d) × (digits f n ≡ d ∷ ds)
unfolding digits
digits-first zero n h l = absurd (omega arith)
digits-first (suc f) n h l = step (λ k. digits-first f (n / 10) (omega arith) (omega arith)) (ltb n 10) refl
  where
    step : (10 ≤ n → (d : ℕ) × (ds : List ℕ) × (49 ≤ d) × (digits f (n / 10) ≡ d ∷ ds)) → (b : Bool) → ltb n 10 ≡ b
        → (d : ℕ) × (ds : List ℕ) × (49 ≤ d) × (pick b ((48 + n) ∷ []) (digits f (n / 10) ++ ((48 + n % 10) ∷ [])) ≡ d ∷ ds)
    step ih true e = (48 + n, [], omega arith, refl)
    step ih false e = let i = ih (ltb-false n 10 e) in (i.0, i.1 ++ ((48 + n % 10) ∷ []), i.2, head_append (digits f (n / 10)) ((48 + n % 10) ∷ []) i.0 i.1 i.3)

-- "without leading zeros": a number from 1 on begins with a digit from 1 on
pub decimal_first : (n : ℕ) → 1 ≤ n → (d : ℕ) × (ds : List ℕ) × (49 ≤ d) × (decimal n ≡ d ∷ ds)
unfolding decimal
decimal_first n l = digits-first n n (omega arith) l
