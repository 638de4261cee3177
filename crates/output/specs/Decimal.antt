-- "numbers printed in decimal without leading zeros". Assumes nothing.
use Rattle.std.specs.Prelude.{ℕ, zero, suc, ◌+◌, ◌-◌, ◌*◌, ◌/◌, ◌%◌, List, [], ◌∷◌, ◌++◌, ltb}
use Rattle.rules.specs.Walk.{pick}
use Prim.Native.Char.{code}

-- the bytes of at most fuel + 1 digits of n, most significant first: those of n / 10, and then the last
unfoldable pub digits : ℕ → ℕ → List ℕ
digits zero n = (code "0" + n) ∷ []
digits (suc fuel) n = pick (ltb n 10) ((code "0" + n) ∷ []) (digits fuel (n / 10) ++ ((code "0" + n % 10) ∷ []))

-- n has no more than n + 1 digits
unfoldable pub decimal : ℕ → List ℕ
decimal n = digits n n

-- what digits say, read behind v: each makes it ten times as much, and adds itself
unfoldable pub value : List ℕ → ℕ → ℕ
value [] v = v
value (d ∷ ds) v = value ds (v * 10 + (d - code "0"))
