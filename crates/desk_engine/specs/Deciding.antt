-- Words that only inner contracts use: no statement and no entry's contract cites them. Assumes nothing.
-- What is decided at the end of the reading pass, and what the writing passes then make of the table; laws tie it to the desk's rules.
use Rattle.std.specs.Prelude.{ℕ, ◌-◌, Bool, List, leb, ltb, Option, None, Some, Ok, Err}
use Rattle.rules.specs.Walk.{pick}
use Rattle.rules.specs.declared.Refusal.{Refusal}
use Rattle.rules.specs.declared.Refusal.TheVariants.{Rules, Numbers, Past, Busy, Full, NoPlace}
use Rattle.desk.specs.declared.Job.{Job}
use Rattle.desk.specs.declared.Done.TheVariants.{Opened, Taken}
use Rattle.desk.specs.declared.Desk.{Desk}
use Rattle.rules.specs.Limits.{places}
use Rattle.desk.specs.Table.{none}
use Rattle.desk.specs.Request.{numbers_ok}
use Rattle.desk_records.specs.Folds.{moved_up}
use Rattle.desk_records.specs.Sums.{most32, sum_to}
use Rattle.desk_writing.specs.Writing.{shift_from, shifted_by, fit_from, fitted_by}
use Rattle.desk_reading.specs.declared.scan.Scan.{Scan}
use Rattle.desk_engine.specs.declared.effect.Effect.{Effect}
use Rattle.desk_reading.specs.declared.searching.Searching.{Searching}
use Rattle.desk_reading.specs.Reading.{right_end, new_job, search_end, behind_by, explanation_by}

-- the jobs left: those listed, without those dropped
abbrev pub rest_of : Desk → Searching → ℕ
rest_of k q = k.count - q.gone

-- ---- what is done: the three writing passes drop so many jobs, and are not made where none is given

-- "works x out and sets the clock to 0"
abbrev pub open_effect : Desk → Effect
open_effect k = record {
  answer = Ok Opened;
  desk = record { clock = 0; count = k.count };
  drop = 0;
  shift = None;
  fit = Some (fit_from (places - k.count) most32);
}

-- "13, 14, 15 .. change nothing at the desk"
abbrev pub keep_effect : Refusal → Desk → Effect
keep_effect why k = record { answer = Err why; desk = k; drop = 0; shift = None; fit = None }

-- "16, 17, 18 set the clock to t and drop finished jobs"
abbrev pub drop_effect : Refusal → Desk → Searching → Effect
drop_effect why k q = record {
  answer = Err why;
  desk = record { clock = q.time; count = rest_of k q };
  drop = q.gone;
  shift = Some (shift_from (rest_of k q) 0 none);
  fit = None;
}

-- "A job taken in sets the clock too."
abbrev pub take_effect : Desk → Searching → Effect
take_effect k q = record {
  answer = Ok (Taken q.place q.start);
  desk = record { clock = q.time; count = sum_to (rest_of k q) 1 };
  drop = q.gone;
  shift = Some (shift_from q.place (sum_to (rest_of k q - q.place) 1) (new_job q));
  fit = Some (fit_from (places - sum_to q.place 1) (behind_by q));
}

-- ---- the decision

-- a request's refusals 14 to 18 in their order, once the table keeps the rules
abbrev pub request_effect : Desk → Searching → Effect
request_effect k q =
    pick (numbers_ok q.time q.budget q.deadline)
    (pick (ltb q.time k.clock) (keep_effect Past k)
    (pick q.busy (drop_effect Busy k q)
    (pick (leb places (rest_of k q)) (drop_effect Full k q)
    (pick (search_end q) (take_effect k q) (drop_effect (NoPlace (explanation_by q)) k q)))))
    (keep_effect Numbers k)

abbrev pub effect_by : Desk → Bool → Searching → Effect
effect_by k opening q = pick opening (open_effect k) (request_effect k q)

-- 13 first
unfoldable pub effect_of : Desk → Bool → Option Scan → Effect
effect_of k opening None = keep_effect Rules k
effect_of k opening (Some s) = pick (right_end opening s) (effect_by k opening s.searching) (keep_effect Rules k)

-- the three writing passes
unfoldable pub applied : Effect → List Job → List Job
applied p l = fitted_by p.fit (shifted_by p.shift (moved_up p.drop l))
