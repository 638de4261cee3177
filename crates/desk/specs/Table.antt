-- The desk's table, its rules and its opening: document 01, "The desk". A table is a list of jobs, the first n of them listed. Assumes nothing.
use Rattle.std.specs.Prelude.{ℕ, ◌+◌, ◌-◌, min, Bool, true, ◌&&◌, List, [], ◌∷◌, ◌++◌, leb, eqb, length, take, drop, replicate, Result, Ok, Err}
use Rattle.rules.specs.Walk.{pick}
use Rattle.rules.specs.Limits.{places, latest}
use Rattle.rules.specs.declared.Refusal.TheVariants.{Rules}
use Rattle.desk.specs.declared.Job.{Job}
use Rattle.desk.specs.declared.Done.{Done}
use Rattle.desk.specs.declared.Done.TheVariants.{Opened}
use Rattle.rules.specs.declared.Refusal.{Refusal}

-- "start a, budget C, deadline d, flexibility x"
abbrev pub job : ℕ → ℕ → ℕ → ℕ → Job
job a c d x = record { start = a; budget = c; deadline = d; flex = x }

abbrev pub start : Job → ℕ
start j = j.start

abbrev pub budget : Job → ℕ
budget j = j.budget

abbrev pub deadline : Job → ℕ
deadline j = j.deadline

abbrev pub flex : Job → ℕ
flex j = j.flex

abbrev pub ends : Job → ℕ
ends j = start j + budget j

-- "Places past the count hold zeros."
abbrev pub none : Job
none = job 0 0 0 0

abbrev pub filled : List Job → List Job
filled js = js ++ replicate (places - length js) none

-- what a call leaves, and its answer
pub record Outcome : Type 0 where
  pub jobs : List Job
  pub count : ℕ
  pub clock : ℕ
  pub answer : Result Done Refusal

abbrev pub outcome : List Job → ℕ → ℕ → Result Done Refusal → Outcome
outcome l n clock r = record { jobs = l; count = n; clock = clock; answer = r }

-- "The last x is d − a − C; any other is the smaller of its own d − a − C and (next x) + (next a) − a − C."
abbrev pub x_of : Job → List Job → ℕ
x_of j [] = deadline j - start j - budget j
x_of j (k ∷ ks) = min (deadline j - start j - budget j) (flex k + start k - start j - budget j)

-- the jobs js in front of ks, those of js "worked out again from there towards the front"
abbrev pub refit : List Job → List Job → List Job
refit [] ks = ks
refit (j ∷ js) ks = job (start j) (budget j) (deadline j) (x_of j (refit js ks)) ∷ refit js ks

-- every x worked out afresh
abbrev pub flexes : List Job → List Job
flexes js = refit js []

-- each x is the rule's own
abbrev pub right_x : List Job → Bool
right_x [] = true
right_x (j ∷ js) = eqb (flex j) (x_of j js) && right_x js

-- "C ≥ 1; each a + C is at most its d", "each d at most 1,000,000"
abbrev pub job_ok : Job → Bool
job_ok j = leb 1 (budget j) && (leb (ends j) (deadline j) && leb (deadline j) latest)

-- "each a + C is .. at most the next a"; e is the end of the job before, 0 in front of all
abbrev pub ordered : ℕ → List Job → Bool
ordered e [] = true
ordered e (j ∷ js) = leb e (start j) && (job_ok j && ordered (ends j) js)

-- "zeros past the count, at opening too"
abbrev pub zeros : Job → Bool
zeros j = eqb (start j) 0 && (eqb (budget j) 0 && (eqb (deadline j) 0 && eqb (flex j) 0))

abbrev pub all_zeros : List Job → Bool
all_zeros [] = true
all_zeros (j ∷ js) = zeros j && all_zeros js

-- "A lent table of other than 64 places is 13", "count at most 64"; any x of a listed job
abbrev pub table_ok : ℕ → List Job → Bool
table_ok n l = eqb (length l) places && (leb n places && (ordered 0 (take n l) && all_zeros (drop n l)))

-- a request's own test: the clock and each x too
abbrev pub desk_ok : ℕ → ℕ → List Job → Bool
desk_ok clock n l = leb clock latest && (table_ok n l && right_x (take n l))

-- "Opening takes any x of a listed job and any clock, works x out and sets the clock to 0."
unfoldable pub open_of : ℕ → ℕ → List Job → Outcome
open_of clock n l = pick (table_ok n l) (outcome (filled (flexes (take n l))) n 0 (Ok Opened)) (outcome l n clock (Err Rules))
