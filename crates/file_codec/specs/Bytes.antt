-- "Numbers of two bytes, high byte first." Assumes nothing.
use Rattle.std.specs.Prelude.{ℕ, ◌+◌, ◌-◌, ◌*◌, ◌/◌, ◌%◌, ◌<◌, List, [], ◌∷◌, length, get_or, take, drop}

-- the numbers that bytes hold; an odd last byte is no number
unfoldable pub nums_of : List ℕ → List ℕ
nums_of [] = []
nums_of (high ∷ []) = []
nums_of (high ∷ low ∷ bs) = (high * 256 + low) ∷ nums_of bs

-- the bytes of numbers
unfoldable pub bytes_of : List ℕ → List ℕ
bytes_of [] = []
bytes_of (n ∷ ns) = (n / 256) ∷ (n % 256) ∷ bytes_of ns

-- every element is a byte
unfoldable pub Bytes : List ℕ → Type 0
Bytes b = (k : ℕ) → k < length b → get_or b k 0 < 256

-- the part from byte a up to, not including, byte e
abbrev pub part : List ℕ → ℕ → ℕ → List ℕ
part b a e = take (e - a) (drop a b)
