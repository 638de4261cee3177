-- Words that only inner contracts use: no statement and no entry's contract cites them. Assumes nothing.
use Rattle.std.specs.Prelude.{ℕ, List, ◌++◌, take, drop}

-- a list with the first n elements of s at its start
abbrev pub over : List ℕ → ℕ → List ℕ → List ℕ
over s n d = take n s ++ drop n d
