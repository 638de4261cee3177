-- One call of the desk, what it leaves in the caller's memory, and its answer as document 01 has it. Assumes nothing.
use Rattle.std.specs.Prelude.{ℕ, ◌≡◌, List, Result}
use Rattle.rules.specs.Refusals.{placed, telling, told_by}
use Rattle.rules.specs.declared.Told.{Told}
use Rattle.desk.specs.declared.Job.{Job}
use Rattle.desk.specs.declared.Desk.{Desk}
use Rattle.desk.specs.declared.Ask.{Ask}
use Rattle.desk.specs.declared.Ask.TheVariants.{Open, Request}
use Rattle.desk.specs.declared.Done.{Done}
use Rattle.desk.specs.declared.Done.TheVariants.{Opened, Taken}
use Rattle.rules.specs.declared.Refusal.{Refusal}
use Rattle.desk.specs.Table.{Outcome, open_of}
use Rattle.desk.specs.Request.{request_of}

-- clock and n are the record's, l the table
abbrev pub call_of : ℕ → ℕ → List Job → Ask → Outcome
call_of clock n l Open = open_of clock n l
call_of clock n l (Request q) = request_of clock n l q.time q.budget q.deadline

-- "The caller keeps the desk's clock and job count in one small record"
abbrev pub desk_of : Outcome → Desk
desk_of o = record { clock = o.clock; count = o.count }

-- "lent to each call and changed there": answer, record and table at exit are the outcome's
abbrev pub Leaves : Outcome → Result Done Refusal → Desk → List Job → Type 0
Leaves o r k l = (r ≡ o.answer) × (k ≡ desk_of o) × (l ≡ o.jobs)

-- 0 and the values, or the refusal's number
abbrev pub said_done : Done → Told
said_done Opened = placed 0 0
said_done (Taken place start) = telling 0 place start 0 0

abbrev pub said : Result Done Refusal → Told
said = told_by said_done
