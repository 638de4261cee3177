-- Words that only inner contracts use: no statement and no entry's contract cites them. Assumes nothing.
-- What the writing passes do, job by job; laws tie them to the desk's rules.
use Rattle.std.specs.Prelude.{ℕ, ◌+◌, ◌-◌, min, List, ltb, Option, None, Some}
use Rattle.rules.specs.Walk.{pick}
use Rattle.desk.specs.declared.Job.{Job}
use Rattle.desk.specs.Table.{start, budget, deadline, flex, none, job}
use Rattle.desk.specs.Places.{moved}
use Rattle.desk_records.specs.Sums.{sum_to}
use Rattle.desk_writing.specs.declared.shift.Shift.{Shift}
use Rattle.desk_writing.specs.declared.fit.Fit.{Fit}
use Rattle.desk_records.specs.Folds.{forth, back}

-- ---- the shift pass: `before` jobs stay, `put` jobs follow, the new one first, moved as far as forced, and zeros after them

-- what the pass begins with
abbrev pub shift_from : ℕ → ℕ → Job → Shift
shift_from before put carry = record { before = before; put = put; end = 0; carry = carry }

-- what is put down where j stood: "Later jobs move only as far as the job before forces them"
abbrev pub shift_out : Shift → Job → Job
shift_out s j =
    pick (ltb 0 s.before) j (pick (ltb 0 s.put) (moved s.end s.carry) none)

-- how far the pass is after j
abbrev pub shift_step : Shift → Job → Shift
shift_step s j =
    pick (ltb 0 s.before)
    (record { before = s.before - 1; put = s.put; end = s.end; carry = s.carry })
    (pick (ltb 0 s.put)
    (record {
      before = s.before;
      put = s.put - 1;
      end = sum_to (start (moved s.end s.carry)) (budget (moved s.end s.carry));
      carry = j;
    })
    s)

-- the whole table
unfoldable pub shifted : Shift → List Job → List Job
shifted s l = forth shift_step shift_out s l

-- a pass that isn't made changes nothing
abbrev pub shifted_by : Option Shift → List Job → List Job
shifted_by None l = l
shifted_by (Some s) l = shifted s l

-- ---- the flexibility pass, from the back: `wait` places stay as they are, the jobs in front of them get their x

-- what the pass begins with
abbrev pub fit_from : ℕ → ℕ → Fit
fit_from wait behind = record { wait = wait; behind = behind }

-- j with its x worked out from the job behind it, if any
abbrev pub fitted : Fit → Job → Job
fitted s j =
    job (start j) (budget j) (deadline j)
    (min (deadline j - start j - budget j) (s.behind - start j - budget j))

-- what is put down where j stood
abbrev pub fit_out : Fit → Job → Job
fit_out s j = pick (ltb 0 s.wait) j (fitted s j)

-- how far the pass is after j
abbrev pub fit_step : Fit → Job → Fit
fit_step s j =
    pick (ltb 0 s.wait) (record { wait = s.wait - 1; behind = s.behind })
    (record { wait = s.wait; behind = flex (fitted s j) + start (fitted s j) })

-- the whole table
unfoldable pub fitted_all : Fit → List Job → List Job
fitted_all s l = back fit_step fit_out s l

-- a pass that isn't made changes nothing
abbrev pub fitted_by : Option Fit → List Job → List Job
fitted_by None l = l
fitted_by (Some s) l = fitted_all s l
