-- Words that only inner contracts use: no statement and no entry's contract cites them. Assumes nothing.
use Rattle.std.specs.Prelude.{ℕ, Bool, List}
use Rattle.rules.specs.Walk.{fails, some}
use Rattle.theory.specs.Harmonic.{pairs}

-- some place before k whose cycle doesn't pair with place k's
abbrev pub clashes : List ℕ → ℕ → Bool
clashes ps k = some (fails (pairs ps k)) k
