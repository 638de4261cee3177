-- Words that only inner contracts use: no statement and no entry's contract cites them. Assumes nothing.
-- What the reading pass begins with.
use Rattle.std.specs.Prelude.{ℕ, Bool, true, false, ◌&&◌, leb, eqb, Option, None, Some}
use Rattle.rules.specs.Walk.{pick}
use Rattle.rules.specs.Limits.{places, latest}
use Rattle.desk.specs.declared.Desk.{Desk}
use Rattle.desk.specs.declared.Ask.{Ask}
use Rattle.desk.specs.declared.Ask.TheVariants.{Open, Request}
use Rattle.desk_records.specs.Sums.{most32}
use Rattle.desk_reading.specs.Best.{no_best}
use Rattle.desk_reading.specs.declared.searching.Searching.{Searching}
use Rattle.desk_reading.specs.declared.searching.Stage.TheVariants.{Looking, Late}
use Rattle.desk_reading.specs.declared.scan.Scan.{Scan}

-- a table of other than 64 places, or a count or clock out of bounds, is not right from the start

-- "A lent table of other than 64 places is 13", "count at most 64"
abbrev pub sizes_ok : Desk → ℕ → Bool
sizes_ok k n = eqb n places && leb k.count places

-- in front of all jobs
abbrev pub scan_from : Desk → Searching → Scan
scan_from k searching = record { left = k.count; checking = record { end = 0; own = 0; flex = 0 }; searching = searching }

abbrev pub searching_from : ℕ → ℕ → ℕ → Searching
searching_from t c d = record {
  time = t;
  budget = c;
  deadline = d;
  gone = 0;
  busy = false;
  place = 0;
  start = t;
  stage = Looking;
  best = no_best;
}

-- at an opening the search has ended before it began
abbrev pub searching_none : Searching
searching_none = record {
  time = 0;
  budget = 0;
  deadline = 0;
  gone = 0;
  busy = false;
  place = 0;
  start = 0;
  stage = Late most32;
  best = no_best;
}

-- "Opening takes any x of a listed job and any clock"
abbrev pub opening_of : Desk → ℕ → Option Scan
opening_of k n = pick (sizes_ok k n) (Some (scan_from k searching_none)) None

-- "A request at time t has budget C and deadline d."
abbrev pub asking_of : Desk → ℕ → ℕ → ℕ → ℕ → Option Scan
asking_of k n t c d =
    pick (leb k.clock latest && sizes_ok k n) (Some (scan_from k (searching_from t c d))) None

-- whether a call opens
abbrev pub opens : Ask → Bool
opens Open = true
opens (Request q) = false

abbrev pub scan_for : Desk → ℕ → Ask → Option Scan
scan_for k n Open = opening_of k n
scan_for k n (Request q) = asking_of k n q.time q.budget q.deadline
