-- What is promised of outputs and decimals beyond each entry's contract. Each statement's proof is a field of `Proved`. Assumes nothing.
use Rattle.std.specs.Prelude.{ℕ, ◌≤◌, ◌≡◌, List, ◌∷◌}
use Rattle.output.specs.Put.{Put}
use Prim.Native.Char.{code}
use Rattle.output.specs.Decimal.{decimal, value}

-- "any two outcomes it permits are equal"
abbrev pub OnePut : Type 0
OnePut = (l s m o : List ℕ) (i p r : ℕ) → Put l i s p m → Put l i s r o → (p ≡ r) × (m ≡ o)

-- the digits of a number say it
abbrev pub DecimalSays : Type 0
DecimalSays = (n : ℕ) → value (decimal n) 0 ≡ n

-- "without leading zeros": a number from 1 on begins with a digit from 1 on
abbrev pub DecimalFirst : Type 0
DecimalFirst = (n : ℕ) → 1 ≤ n → (d : ℕ) × (ds : List ℕ) × (code "1" ≤ d) × (decimal n ≡ d ∷ ds)

pub record Proved : Type 0 where
  pub one_put : OnePut
  pub decimal_says : DecimalSays
  pub decimal_first : DecimalFirst
