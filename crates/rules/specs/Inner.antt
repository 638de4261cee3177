-- Words that only inner contracts use: no statement and no entry's contract cites them. Assumes nothing.
use Rattle.std.specs.Prelude.{ℕ, ◌≤◌, ◌<◌, ◌≡◌, List, length, get_or}

-- what a pass leaves: the first h numbers are as o names them, the others as they were
pub record AsNamed (o : ℕ → ℕ) (h : ℕ) (before after : List ℕ) : Type 0 where
  pub as_long : length after ≡ length before
  pub done : (t : ℕ) → t < h → get_or after t 0 ≡ o t
  pub rest : (t : ℕ) → h ≤ t → get_or after t 0 ≡ get_or before t 0
