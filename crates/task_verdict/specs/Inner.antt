-- Words that only inner contracts use: no statement and no entry's contract cites them. Assumes nothing.
use Rattle.std.specs.Prelude.{ℕ, ◌≡◌, List, Option, Result, Ok, Err}
use Rattle.rules.specs.declared.Refusal.{Refusal}
use Rattle.task_demand.specs.Inner.{Judgeable}

-- an engine may be asked about each task that can be judged
unfoldable pub Asked : List ℕ → (ℕ → Type 0) → Type 0
Asked ts May = (i : ℕ) → Judgeable ts i → May i

-- the answer of an engine that is asked unless something is refused
unfoldable pub Found : Result (Unit {0}) Refusal → (Option ℕ → Type 0) → Result (Option ℕ) Refusal → Type 0
Found (Ok _) Finds z = (t : Option ℕ) × Finds t × (z ≡ Ok t)
Found (Err r) Finds z = z ≡ Err r
