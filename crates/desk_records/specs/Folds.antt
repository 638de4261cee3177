-- Words that only inner contracts use: no statement and no entry's contract cites them. Assumes nothing.
-- A pass over a list of jobs that threads a state: a fold, a rewriting from the front, one from the back, and a move to the front.
use Rattle.std.specs.Prelude.{ℕ, ◌-◌, List, [], ◌∷◌, ◌++◌, length, drop}
use Rattle.desk.specs.declared.Job.{Job}

-- the state after the jobs of l, from the front
unfoldable pub fold : {S : Type 0} → (S → Job → S) → S → List Job → S
fold step s [] = s
fold step s (j ∷ l) = fold step (step s j) l

-- each job as the state before it makes it, from the front
unfoldable pub forth : {S : Type 0} → (S → Job → S) → (S → Job → Job) → S → List Job → List Job
forth step out s [] = []
forth step out s (j ∷ l) = out s j ∷ forth step out (step s j) l

-- the state after the jobs of l, from the back
unfoldable pub fold_back : {S : Type 0} → (S → Job → S) → S → List Job → S
fold_back step s [] = s
fold_back step s (j ∷ l) = step (fold_back step s l) j

-- each job as the state behind it makes it, from the back
unfoldable pub back : {S : Type 0} → (S → Job → S) → (S → Job → Job) → S → List Job → List Job
back step out s [] = []
back step out s (j ∷ l) = out (fold_back step s l) j ∷ back step out s l

-- the jobs from place k on, moved to the front; the last places stay
unfoldable pub moved_up : ℕ → List Job → List Job
moved_up k l = drop k l ++ drop (length l - k) l
