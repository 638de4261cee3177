-- Words that only inner contracts use: no statement and no entry's contract cites them. Assumes nothing.
use Rattle.std.specs.Prelude.{ℕ}
use Prim.Native.Char.{Char, code}

-- the byte of a character
abbrev pub byte : Char → ℕ
byte c = code c
