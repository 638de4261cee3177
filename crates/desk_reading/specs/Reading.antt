-- Words that only inner contracts use: no statement and no entry's contract cites them. Assumes nothing.
-- One step of the reading pass: the table's rules and the search for a place; laws tie them to the desk's.
use Rattle.std.specs.Prelude.{ℕ, ◌+◌, ◌-◌, min, Bool, true, false, ◌&&◌, ◌||◌, List, [], leb, ltb, eqb, Option, None, Some}
use Rattle.rules.specs.Walk.{pick}
use Rattle.rules.specs.declared.Explanation.{Explanation}
use Rattle.rules.specs.declared.Explanation.TheVariants.{Nowhere}
use Rattle.desk.specs.declared.Job.{Job}
use Rattle.desk.specs.Table.{job, start, budget, flex, ends, x_of, job_ok, zeros}
use Rattle.desk.specs.Places.{room}
use Rattle.desk_reading.specs.declared.checking.Checking.{Checking}
use Rattle.desk_reading.specs.declared.searching.Stage.{Stage}
use Rattle.desk_reading.specs.declared.searching.Stage.TheVariants.{Looking, Found, Late}
use Rattle.desk_reading.specs.declared.searching.Searching.{Searching}
use Rattle.desk_reading.specs.declared.scan.Scan.{Scan}
use Rattle.desk_reading.specs.Best.{best_with, sought_at, explained}
use Rattle.desk_records.specs.Folds.{fold}
use Rattle.desk_records.specs.Sums.{most32, sum_to}

-- ---- the table's rules: a listed job is held against the one before; an opening looks at no x

-- j may stand behind the job before, whose x is the rule's, or is not looked at
abbrev pub follows : Bool → Checking → Job → Bool
follows opening s j =
    job_ok j && (leb s.end (start j) && (eqb s.flex (min s.own (flex j + start j - s.end)) || opening))

-- j is the job before
abbrev pub behind : Job → Checking
behind j = record { end = ends j; own = x_of j []; flex = flex j }

-- the last job's x is the rule's, or is not looked at
abbrev pub last_ok : Bool → Checking → Bool
last_ok opening s = eqb s.flex s.own || opening

-- ---- the search among the jobs that do not end by t, which are behind those that do

-- a job is dropped
abbrev pub search_dropped : Searching → Searching
search_dropped s = record {
  time = s.time;
  budget = s.budget;
  deadline = s.deadline;
  gone = sum_to s.gone 1;
  busy = s.busy;
  place = s.place;
  start = s.start;
  stage = s.stage;
  best = s.best;
}

-- the place is the one before j
abbrev pub search_closed : Searching → Bool → Stage → Job → Searching
search_closed s busy stage j = record {
  time = s.time;
  budget = s.budget;
  deadline = s.deadline;
  gone = s.gone;
  busy = busy;
  place = s.place;
  start = s.start;
  stage = stage;
  best = sought_at s.best j;
}

-- the search goes on behind j, where the room was r
abbrev pub search_past : Searching → Bool → ℕ → Job → Searching
search_past s busy r j = record {
  time = s.time;
  budget = s.budget;
  deadline = s.deadline;
  gone = s.gone;
  busy = busy;
  place = sum_to s.place 1;
  start = sum_to (start j) (budget j);
  stage = s.stage;
  best = sought_at (best_with s.best s.place r (ltb (flex j) (s.deadline - start j))) j;
}

-- behind the place
abbrev pub search_behind : Searching → Job → Searching
search_behind s j = record {
  time = s.time;
  budget = s.budget;
  deadline = s.deadline;
  gone = s.gone;
  busy = s.busy;
  place = s.place;
  start = s.start;
  stage = s.stage;
  best = sought_at s.best j;
}

-- the first job left is running, j being the next one left
abbrev pub busy_after : Searching → Job → Bool
busy_after s j = pick (eqb s.place 0) (ltb (start j) s.time) s.busy

-- "The lowest place with R ≥ C is taken", among those with a ≤ d
abbrev pub search_look : Searching → Job → Searching
search_look s j =
    pick (ltb s.deadline (start j)) (search_closed s (busy_after s j) (Late (flex j + start j)) j)
    (pick (ltb (room s.start s.deadline j) s.budget) (search_past s (busy_after s j) (room s.start s.deadline j) j)
    (search_closed s (busy_after s j) (Found (flex j + start j)) j))

-- one more job: one that ends by t is dropped, any other is looked at; behind the place only the job that binds is sought
abbrev pub search_by : Stage → Searching → Job → Searching
search_by Looking s j = pick (leb (ends j) s.time) (search_dropped s) (search_look s j)
search_by (Found _) s j = search_behind s j
search_by (Late _) s j = search_behind s j

abbrev pub search_step : Searching → Job → Searching
search_step s j = search_by s.stage s j

-- the job asked for, at the start that the search has come to
abbrev pub new_job : Searching → Job
new_job s = job s.start s.budget s.deadline 0

-- after the last place: one with room is found, or place l "is taken when s + C ≤ d"
abbrev pub found_by : Stage → Bool
found_by Looking = false
found_by (Found _) = true
found_by (Late _) = false

abbrev pub search_end : Searching → Bool
search_end s = found_by s.stage || leb (ends (new_job s)) s.deadline

-- when the job behind the place has to start at the latest, far off if there is none
abbrev pub behind_at : Stage → ℕ
behind_at Looking = most32
behind_at (Found behind) = behind
behind_at (Late behind) = behind

abbrev pub behind_by : Searching → ℕ
behind_by s = behind_at s.stage

-- with place l, which "has room d − s, bound by the request's deadline; a place with room below 0 is none"
abbrev pub explanation_by : Searching → Explanation
explanation_by s =
    pick (leb s.start s.deadline) (explained (best_with s.best s.place (s.deadline - s.start) false))
    (pick (eqb s.place 0) Nowhere (explained s.best))

-- ---- the whole pass

-- a listed job is checked and searched at once; none where a rule is broken
abbrev pub listed_step : Bool → Scan → Job → Option Scan
listed_step opening s j =
    pick (follows opening s.checking j)
    (Some (record { left = s.left - 1; checking = behind j; searching = search_step s.searching j }))
    None

-- a place past the count is held against zeros
abbrev pub scan_step : Bool → Scan → Job → Option Scan
scan_step opening s j = pick (ltb 0 s.left) (listed_step opening s j) (pick (zeros j) (Some s) None)

-- a broken rule stays broken
abbrev pub scan_on : Bool → Option Scan → Job → Option Scan
scan_on opening None j = None
scan_on opening (Some s) j = scan_step opening s j

-- after the last place
abbrev pub right_end : Bool → Scan → Bool
right_end opening s = last_ok opening s.checking

abbrev pub check_end : Bool → Option Scan → Bool
check_end opening None = false
check_end opening (Some s) = right_end opening s

unfoldable pub scanned : Bool → Option Scan → List Job → Option Scan
scanned opening s l = fold (scan_on opening) s l
