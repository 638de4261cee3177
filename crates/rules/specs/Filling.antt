-- What a call leaves in a lent output. Assumes nothing.
use Rattle.std.specs.Prelude.{List, ◌++◌, ℕ, drop, Result, Ok, Err}
use Rattle.rules.specs.declared.Refusal.{Refusal}

-- "Success changes only the bytes it needs; refusals 1 to 12 change no output byte."
abbrev pub left_by : Result ℕ Refusal → List ℕ → List ℕ → List ℕ
left_by (Ok n) new out = new ++ drop n out
left_by (Err r) new out = out
