-- Words that only inner contracts use: no statement and no entry's contract cites them. Assumes nothing.
use Rattle.std.specs.Prelude.{ℕ, ◌+◌, min}

-- the most that 32 bits hold, and a sum that stays within them
abbrev pub most32 : ℕ
most32 = 4294967295

abbrev pub sum_to : ℕ → ℕ → ℕ
sum_to x y = min (x + y) most32
