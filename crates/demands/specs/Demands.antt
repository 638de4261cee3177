-- The three demands, over what a caller is told and what then stands in all that was lent. `TellsCheck` and its like, each entry's own contract by
-- specs/Entries.antt, are met by every call, so a statement about all that they permit is one about the entry. Assumes nothing.
use Rattle.std.specs.Prelude.{ℕ, ◌+◌, ◌-◌, ◌≤◌, ◌<◌, ◌≡◌, ◌↔◌, ◌⊎◌, Bool, true, false, ◌||◌, List, [], ◌∷◌, eqb, length, take, get_or, set}
use seplogic.Ra.Ura.{Ura}
use base.Logic.{SProp}
use prog.Memory.{Memory}
use prog.Routine.{Routine}
use types.Logic.{Logic}
use contract.Monad.{Fun}
use Rattle.rules.specs.Limits.{longest, most_granule, newest_edition}
use Rattle.rules.specs.Table.{partitions, partition, deadline}
use Rattle.rules.specs.Terms.{granules, rule_of, wanted}
use Rattle.rules.specs.Refusals.{placed, telling}
use Rattle.rules.specs.declared.Binding.TheVariants as binding
use Rattle.rules.specs.declared.Told.{Told}
use Rattle.tables.specs.Tables.{within_limits, GoodTables}
use Rattle.output.specs.Theorems as output
use Rattle.rules.specs.declared.Rule.{Rule}
use Rattle.rules.specs.declared.Rule.TheVariants.{Own}
use Rattle.theory.specs.Plan.{held, least, Serves}
use Rattle.theory.specs.Harmonic.{Harmonic, frame, all_wanted}
use Rattle.theory.specs.Run.{Ran, done, LegalTo, Legal}
use Rattle.theory.specs.Load.{shortage}
use Rattle.theory.specs.Task.{task_load}
use Rattle.theory.specs.Theorems as theory
use Rattle.plan_curve.specs.Theorems as curve
use Rattle.plan_check.specs.Theorems as checker
use Rattle.plan_build.specs.Theorems as built-plans
use Rattle.counts.specs.Theorems as counts
use Rattle.task_verdict.specs.Theorems as verdict
use Rattle.task_page.specs.Theorems as page
use Rattle.file_read.specs.Theorems as reader
use Rattle.file_write.specs.Theorems as writer
use Rattle.file_runs.specs.Theorems as runs
use Rattle.file_listing.specs.Theorems as listing
use Rattle.why_page.specs.Theorems as why
use Rattle.share_plan.specs.Theorems as planner
use Rattle.desk.specs.declared.Job.{Job}
use Rattle.desk.specs.declared.Desk.{Desk}
use Rattle.desk.specs.Table.{start, ends, none, filled, flexes}
use Rattle.desk.specs.Places.{early, start_at}
use Rattle.desk.specs.Request.{kept}
use Rattle.desk.specs.Theorems as desk
use Rattle.desk_lent.specs.Theorems as lent
use Rattle.api.specs.Answers.{TellsHeld, TellsLeast, TellsCurve, TellsCheck, TellsBuild, TellsFill, TellsCounted, TellsMany, TellsChange, TellsVerdict, TellsPlain, TellsPage, TellsRead, TellsSection, TellsWrite, TellsList, TellsOpen, TellsRequest}
use Rattle.demands.specs.Entries.{Entries}
use Rattle.demands.specs.GranuleOne.{GranuleOne}

-- a number is one of a list
abbrev pub among : List ℕ → ℕ → Bool
among [] n = false
among (m ∷ ms) n = eqb m n || among ms n

-- an answer's number is one of these
abbrev pub ToldAs : List ℕ → Told → Type 0
ToldAs ms t = among ms t.number ≡ true

-- it is 0 or one of those that the call uses
abbrev pub Numbered : List ℕ → Told → Type 0
Numbered ms = ToldAs (0 ∷ ms)

abbrev pub Refused : Told → Type 0
Refused t = ¬ (t.number ≡ 0)

-- document 02, ask 6: an edition is 1 or 2
abbrev pub Known : ℕ → Type 0
Known e = (1 ≤ e) × (e ≤ newest_edition)

-- the edition is known, the counts and the frame are within their limits, and the granule is not
abbrev pub BadGranule : ℕ → ℕ → ℕ → List ℕ → List ℕ → Type 0
BadGranule e g frame ps ts = Known e × (within_limits frame (length ps) (length ts) ≡ true) × ¬ ((1 ≤ g) × (g ≤ most_granule))

-- DEMAND 1: "Whatever bytes, tables or calls come in, each entry ends with an answer. Bad input is refused with document 01's number, and what was lent
-- then holds what that document says." That each entry ends, for every input, is what the check of its contract proves; that none has a `requires`, specs/Entries.antt.
pub record Demand1 : Type 0 where
  -- "the builder 3, 6, 10, 11, 12" with "21, after 3"
  pub build_numbers : (g : ℕ) (ps out o : List ℕ) (t : Told) → TellsBuild g ps out o t → Numbered (3 ∷ 21 ∷ 6 ∷ 10 ∷ 11 ∷ 12 ∷ []) t
  -- of held and least only an edition is refused, of a curve a list too short too
  pub held_numbers : (e : ℕ) (plan : List ℕ) (p s n : ℕ) (t : Told) → TellsHeld e plan p s n t → Numbered (2 ∷ []) t
  pub least_numbers : (e : ℕ) (plan : List ℕ) (p u : ℕ) (t : Told) → TellsLeast e plan p u t → Numbered (2 ∷ []) t
  pub curve_numbers : (e : ℕ) (plan : List ℕ) (p n : ℕ) (list o : List ℕ) (t : Told) → TellsCurve e plan p n list o t → Numbered (2 ∷ 12 ∷ []) t
  -- "the checker 3, 6, 8, 9" with 2 "in a call too" and "21, after 3"
  pub check_numbers : (e g : ℕ) (plan ps : List ℕ) (t : Told) → TellsCheck e g plan ps t → Numbered (2 ∷ 3 ∷ 21 ∷ 6 ∷ 8 ∷ 9 ∷ []) t
  -- document 02, ask 2: "a list too short is 12", after "the checker's 3, 6 and 8"
  pub fill_numbers : (plan ps list o : List ℕ) (t : Told) → TellsFill plan ps list o t → Numbered (3 ∷ 6 ∷ 8 ∷ 12 ∷ []) t
  -- and 20 and 26 behind it
  pub counts_held_numbers : (plan ps list : List ℕ) (p s n : ℕ) (t : Told) → TellsCounted plan ps list p s n t → Numbered (3 ∷ 6 ∷ 8 ∷ 12 ∷ 20 ∷ 26 ∷ []) t
  pub many_numbers : (plan ps list qs out o : List ℕ) (t : Told) → TellsMany plan ps list qs out o t → Numbered (3 ∷ 6 ∷ 8 ∷ 12 ∷ 20 ∷ 26 ∷ []) t
  pub change_numbers :
      (plan ps list plan' o : List ℕ) (tick owner : ℕ) (t : Told) → TellsChange plan ps list tick owner plan' o t
      → Numbered (3 ∷ 6 ∷ 8 ∷ 12 ∷ 20 ∷ 26 ∷ []) t
  -- "the verdict 3, 6, 7, 8, 9" with 2 and "21, after 3"
  pub verdict_numbers : (e g : ℕ) (plan ps ts : List ℕ) (place : ℕ) (t : Told) → TellsVerdict e g plan ps ts place t → Numbered (2 ∷ 3 ∷ 21 ∷ 6 ∷ 7 ∷ 8 ∷ 9 ∷ []) t
  pub plain_numbers : (e g : ℕ) (plan ps ts : List ℕ) (place : ℕ) (t : Told) → TellsPlain e g plan ps ts place t → Numbered (2 ∷ 3 ∷ 21 ∷ 6 ∷ 7 ∷ 8 ∷ 9 ∷ []) t
  -- document 02, ask 7: "Refusals: the verdict's; a list too short for a failing task's points is 12."
  pub page_numbers :
      (e g : ℕ) (plan ps ts : List ℕ) (place : ℕ) (list o : List ℕ) (t : Told) → TellsPage e g plan ps ts place list o t
      → Numbered (2 ∷ 3 ∷ 21 ∷ 6 ∷ 7 ∷ 8 ∷ 9 ∷ 12 ∷ []) t
  -- "the reader uses 1 to 8"
  pub read_numbers : (b : List ℕ) (t : Told) → TellsRead b t → Numbered (1 ∷ 2 ∷ 3 ∷ 4 ∷ 5 ∷ 6 ∷ 7 ∷ 8 ∷ []) t
  -- of a file that the reader refuses a section tells the reader's refusal, whatever part is asked for
  pub section_refused : (b : List ℕ) (which : ℕ) (t u : Told) → TellsSection b which t → TellsRead b u → Refused u → t ≡ u
  pub section_good : (b : List ℕ) (which : ℕ) (t u : Told) → TellsSection b which t → TellsRead b u → u.number ≡ 0 → t.number ≡ 0
  -- "the writer 3, 6, 7, 8, 12" with 2
  pub write_numbers :
      (e f : ℕ) (ps ts rs out o : List ℕ) (t : Told) → TellsWrite e f ps ts rs out o t → Numbered (2 ∷ 3 ∷ 6 ∷ 7 ∷ 8 ∷ 12 ∷ []) t
  -- a listing is refused only for want of room
  pub list_numbers : (b out o : List ℕ) (t : Told) → TellsList b out o t → Numbered (12 ∷ []) t
  -- "opening 13"
  pub open_numbers : (k k' : Desk) (l l' : List Job) (t : Told) → TellsOpen k l k' l' t → Numbered (13 ∷ []) t
  -- "a request 13 to 19", and document 02, ask 8: "Refusal 19 goes."
  pub request_numbers :
      (k k' : Desk) (l l' : List Job) (time c d : ℕ) (t : Told) → TellsRequest k l time c d k' l' t
      → Numbered (13 ∷ 14 ∷ 15 ∷ 16 ∷ 17 ∷ 18 ∷ []) t
  -- document 02, ask 6: "2 now means neither 1 nor 2, in a call too": exactly then, whatever else comes in
  pub held_edition : (e : ℕ) (plan : List ℕ) (p s n : ℕ) (t : Told) → TellsHeld e plan p s n t → (t.number ≡ 2) ↔ (¬ Known e)
  pub least_edition : (e : ℕ) (plan : List ℕ) (p u : ℕ) (t : Told) → TellsLeast e plan p u t → (t.number ≡ 2) ↔ (¬ Known e)
  pub curve_edition : (e : ℕ) (plan : List ℕ) (p n : ℕ) (list o : List ℕ) (t : Told) → TellsCurve e plan p n list o t → (t.number ≡ 2) ↔ (¬ Known e)
  pub check_edition : (e g : ℕ) (plan ps : List ℕ) (t : Told) → TellsCheck e g plan ps t → (t.number ≡ 2) ↔ (¬ Known e)
  pub verdict_edition : (e g : ℕ) (plan ps ts : List ℕ) (place : ℕ) (t : Told) → TellsVerdict e g plan ps ts place t → (t.number ≡ 2) ↔ (¬ Known e)
  pub plain_edition : (e g : ℕ) (plan ps ts : List ℕ) (place : ℕ) (t : Told) → TellsPlain e g plan ps ts place t → (t.number ≡ 2) ↔ (¬ Known e)
  pub page_edition :
      (e g : ℕ) (plan ps ts : List ℕ) (place : ℕ) (list o : List ℕ) (t : Told) → TellsPage e g plan ps ts place list o t → (t.number ≡ 2) ↔ (¬ Known e)
  pub write_edition : (e f : ℕ) (ps ts rs out o : List ℕ) (t : Told) → TellsWrite e f ps ts rs out o t → (t.number ≡ 2) ↔ (¬ Known e)
  -- document 02, ask 5: "g outside 1 to 16 is 21, after 3": exactly then, whatever the records and the plan
  pub build_granule : (g : ℕ) (ps out o : List ℕ) (t : Told) → TellsBuild g ps out o t → (t.number ≡ 21) ↔ BadGranule 1 g longest ps []
  pub check_granule : (e g : ℕ) (plan ps : List ℕ) (t : Told) → TellsCheck e g plan ps t → (t.number ≡ 21) ↔ BadGranule e g (length plan) ps []
  pub verdict_granule :
      (e g : ℕ) (plan ps ts : List ℕ) (place : ℕ) (t : Told) → TellsVerdict e g plan ps ts place t → (t.number ≡ 21) ↔ BadGranule e g (length plan) ps ts
  pub plain_granule :
      (e g : ℕ) (plan ps ts : List ℕ) (place : ℕ) (t : Told) → TellsPlain e g plan ps ts place t → (t.number ≡ 21) ↔ BadGranule e g (length plan) ps ts
  pub page_granule :
      (e g : ℕ) (plan ps ts : List ℕ) (place : ℕ) (list o : List ℕ) (t : Told) → TellsPage e g plan ps ts place list o t
      → (t.number ≡ 21) ↔ BadGranule e g (length plan) ps ts
  -- "refusals 1 to 12 change no output byte", and 21 "changes no output byte"
  pub build_refused : (g : ℕ) (ps out o : List ℕ) (t : Told) → TellsBuild g ps out o t → Refused t → o ≡ out
  pub write_refused : (e f : ℕ) (ps ts rs out o : List ℕ) (t : Told) → TellsWrite e f ps ts rs out o t → Refused t → o ≡ out
  pub curve_refused : (e : ℕ) (plan : List ℕ) (p n : ℕ) (list o : List ℕ) (t : Told) → TellsCurve e plan p n list o t → Refused t → o ≡ list
  pub page_refused :
      (e g : ℕ) (plan ps ts : List ℕ) (place : ℕ) (list o : List ℕ) (t : Told) → TellsPage e g plan ps ts place list o t → Refused t → o ≡ list
  pub list_refused : (b out o : List ℕ) (t : Told) → TellsList b out o t → Refused t → o ≡ out
  -- document 02, ask 2: "None of them changes anything."
  pub fill_refused : (plan ps list o : List ℕ) (t : Told) → TellsFill plan ps list o t → Refused t → o ≡ list
  pub many_refused : (plan ps list qs out o : List ℕ) (t : Told) → TellsMany plan ps list qs out o t → Refused t → o ≡ out
  pub change_refused :
      (plan ps list plan' o : List ℕ) (tick owner : ℕ) (t : Told) → TellsChange plan ps list tick owner plan' o t → Refused t
      → (plan' ≡ plan) × (o ≡ list)
  -- "13, 14, 15 .. change nothing at the desk."
  pub open_refused : (k k' : Desk) (l l' : List Job) (t : Told) → TellsOpen k l k' l' t → Refused t → (k' ≡ k) × (l' ≡ l)
  pub request_refused :
      (k k' : Desk) (l l' : List Job) (time c d : ℕ) (t : Told) → TellsRequest k l time c d k' l' t
      → ToldAs (13 ∷ 14 ∷ 15 ∷ []) t → (k' ≡ k) × (l' ≡ l)
  -- "16, 17, 18 set the clock to t and drop finished jobs .. nothing else changes."
  pub request_drops :
      (k k' : Desk) (l l' : List Job) (time c d : ℕ) (t : Told) → TellsRequest k l time c d k' l' t → ToldAs (16 ∷ 17 ∷ 18 ∷ []) t
      → (k'.clock ≡ time) × (k'.count ≡ length (kept time (take k.count l))) × (l' ≡ filled (kept time (take k.count l)))
  -- "A job taken in sets the clock too."
  pub request_taken :
      (k k' : Desk) (l l' : List Job) (time c d : ℕ) (t : Told) → TellsRequest k l time c d k' l' t → t.number ≡ 0 → k'.clock ≡ time

-- "any two outcomes it permits are equal": of each entry of the C surface, what is told and what is left (`wants`: theory's `WantsOne`)
pub record OneOutcome : Type 0 where
  pub held_one : (e : ℕ) (plan : List ℕ) (p s n : ℕ) (t t' : Told) → TellsHeld e plan p s n t → TellsHeld e plan p s n t' → t ≡ t'
  pub least_one : (e : ℕ) (plan : List ℕ) (p u : ℕ) (t t' : Told) → TellsLeast e plan p u t → TellsLeast e plan p u t' → t ≡ t'
  pub curve_one :
      (e : ℕ) (plan : List ℕ) (p n : ℕ) (list o o' : List ℕ) (t t' : Told) → TellsCurve e plan p n list o t → TellsCurve e plan p n list o' t' → (t ≡ t') × (o ≡ o')
  pub check_one : (e g : ℕ) (plan ps : List ℕ) (t t' : Told) → TellsCheck e g plan ps t → TellsCheck e g plan ps t' → t ≡ t'
  pub build_one : (g : ℕ) (ps out o o' : List ℕ) (t t' : Told) → TellsBuild g ps out o t → TellsBuild g ps out o' t' → (t ≡ t') × (o ≡ o')
  pub fill_one :
      (plan ps list o o' : List ℕ) (t t' : Told) → TellsFill plan ps list o t → TellsFill plan ps list o' t' → (t ≡ t') × (o ≡ o')
  pub counts_held_one :
      (plan ps list : List ℕ) (p s n : ℕ) (t t' : Told) → TellsCounted plan ps list p s n t → TellsCounted plan ps list p s n t' → t ≡ t'
  pub many_one :
      (plan ps list qs out o o' : List ℕ) (t t' : Told) → TellsMany plan ps list qs out o t → TellsMany plan ps list qs out o' t'
      → (t ≡ t') × (o ≡ o')
  pub change_one :
      (plan ps list plan₁ plan₂ o₁ o₂ : List ℕ) (tick owner : ℕ) (t t' : Told) → TellsChange plan ps list tick owner plan₁ o₁ t
      → TellsChange plan ps list tick owner plan₂ o₂ t' → (t ≡ t') × (plan₁ ≡ plan₂) × (o₁ ≡ o₂)
  pub verdict_one : (e g : ℕ) (plan ps ts : List ℕ) (place : ℕ) (t t' : Told) → TellsVerdict e g plan ps ts place t → TellsVerdict e g plan ps ts place t' → t ≡ t'
  pub plain_one : (e g : ℕ) (plan ps ts : List ℕ) (place : ℕ) (t t' : Told) → TellsPlain e g plan ps ts place t → TellsPlain e g plan ps ts place t' → t ≡ t'
  pub page_one :
      (e g : ℕ) (plan ps ts : List ℕ) (place : ℕ) (list o o' : List ℕ) (t t' : Told) → TellsPage e g plan ps ts place list o t → TellsPage e g plan ps ts place list o' t'
      → (t ≡ t') × (o ≡ o')
  pub read_one : (b : List ℕ) (t t' : Told) → TellsRead b t → TellsRead b t' → t ≡ t'
  pub section_one : (b : List ℕ) (which : ℕ) (t t' : Told) → TellsSection b which t → TellsSection b which t' → t ≡ t'
  pub write_one :
      (e f : ℕ) (ps ts rs out o o' : List ℕ) (t t' : Told) → TellsWrite e f ps ts rs out o t → TellsWrite e f ps ts rs out o' t' → (t ≡ t') × (o ≡ o')
  pub list_one : (b out o o' : List ℕ) (t t' : Told) → TellsList b out o t → TellsList b out o' t' → (t ≡ t') × (o ≡ o')
  pub open_one :
      (k k₁ k₂ : Desk) (l l₁ l₂ : List Job) (t t' : Told) → TellsOpen k l k₁ l₁ t → TellsOpen k l k₂ l₂ t' → (t ≡ t') × (k₁ ≡ k₂) × (l₁ ≡ l₂)
  pub request_one :
      (k k₁ k₂ : Desk) (l l₁ l₂ : List Job) (time c d : ℕ) (t t' : Told) → TellsRequest k l time c d k₁ l₁ t → TellsRequest k l time c d k₂ l₂ t'
      → (t ≡ t') × (k₁ ≡ k₂) × (l₁ ≡ l₂)

-- of the verdict's t and the plain engine's u: refused alike, in all values; else both pass, with u's tick never above t's point, or both fail
abbrev pub ToldAlike : Told → Told → Type 0
ToldAlike t u = (u.number ≡ t.number) × (Refused t → u ≡ t) × ((1 ≤ u.first) ↔ (1 ≤ t.first)) × (u.first ≤ t.first)

-- an engine that tells a pass in any edition, with its point or tick, which is 1 or more, tells one in edition 1
abbrev pub PassedBefore : (ℕ → ℕ → List ℕ → List ℕ → List ℕ → ℕ → Told → Type 0) → Type 0
PassedBefore tells =
    (e g : ℕ) (plan ps ts : List ℕ) (place : ℕ) (t u : Told) → tells e g plan ps ts place t → t.number ≡ 0 → 1 ≤ t.first
    → tells 1 g plan ps ts place u → (u.number ≡ 0) × (1 ≤ u.first)

-- document 02, ask 7: what is told of a task and then stands in a list, beside the verdict's u
pub record PageSays (e : ℕ) (plan ts : List ℕ) (i : ℕ) (list o : List ℕ) (t u : Told) : Type 0 where
  -- "A passing task lists nothing" and answers as the verdict does
  pub pass : 1 ≤ u.first → u.number ≡ 0 → (t ≡ u) × (o ≡ list)
  -- "Refusals: the verdict's"
  pub refused : Refused u → t ≡ u
  -- 12 behind them, of a failing task alone
  pub short : t.number ≡ 12 → (u.number ≡ 0) × (u.first ≡ 0)
  -- "for each scheduling point in rising order, its demand, its least service and a worst start (the lowest)"
  pub rows : t.number ≡ 0 → t.first ≡ 0 → page.Rows (rule_of e) plan ts i t.second list o
  -- "and name the point with the smallest shortage, lowest point on equals", with that shortage
  pub tightest :
      t.number ≡ 0 → t.first ≡ 0
      → theory.TightestPoint (task_load ts) (least (rule_of e) plan (partition ts i)) i t.third
      × (t.fourth ≡ shortage (task_load ts) (least (rule_of e) plan (partition ts i)) i t.third) × (1 ≤ t.fourth)

-- each flexibility in the table is the rule's own, worked out from nothing
abbrev pub Afresh : Desk → List Job → Type 0
Afresh k l = flexes (take k.count l) ≡ take k.count l

-- the numbers of a request that are lower than 18
abbrev pub lower : List ℕ
lower = 13 ∷ 14 ∷ 15 ∷ 16 ∷ 17 ∷ []

-- document 02, ask 7: what is told with 18 of the jobs left. A place and its room; then 1 and the request's own deadline, or 2 and a listed job's, with that job
pub record Explains (time c d : ℕ) (left : List Job) (t : Told) : Type 0 where
  -- "If there is none, as when t is past d, say so": 0
  pub none : (t.third ≡ 0) ↔ ((early d left ≡ 0) × (d < time))
  -- "the lowest place with the largest room, that room"
  pub roomiest : 1 ≤ t.third → desk.Roomy time d left t.first t.second × (t.second < c)
  -- "one tick more in that place does break the deadline named"
  pub binds :
      1 ≤ t.third
      → ((t.third ≡ 1) × desk.TickBreaks time d left t.first t.second binding.Own)
      ⊎ ((t.third ≡ 2) × desk.TickBreaks time d left t.first t.second (binding.Listed t.fourth))

-- DEMAND 2: "Ticks, plan, verdict, file and desk are exactly those of the documents' rules. Read-after-write gives the tables, write-after-read the bytes;
-- after every call that tests the job table and doesn't refuse it, flexibilities are those worked out afresh." Each entry has one outcome, its rule's, and of the rules the records below hold.
pub record Demand2 : Type 0 where
  pub one_outcome : OneOutcome
  pub of_rules : theory.Proved
  pub of_output : output.Proved
  pub of_curves : curve.Proved
  pub of_checker : checker.Proved
  pub of_builder : built-plans.Proved
  pub of_counts : counts.Proved
  pub of_verdicts : verdict.Proved
  pub of_pages : page.Proved
  pub of_reader : reader.Proved
  pub of_writer : writer.Proved
  pub of_runs : runs.Proved
  pub of_listings : listing.Proved
  pub of_texts : why.Proved
  pub of_planner : planner.Proved
  pub of_desk : desk.Proved
  pub of_lent_desk : lent.Proved
  -- document 02, ask 5: "g = 1 gives today's answers"
  pub granule_one : GranuleOne
  pub read_write : writer.ReadWrite
  pub write_read : writer.WriteRead
  -- each number of a curve is what `least` answers
  pub curve_least :
      (e : ℕ) (plan : List ℕ) (p n : ℕ) (list o : List ℕ) (t : Told) → TellsCurve e plan p n list o t → t.number ≡ 0
      → (u : ℕ) → u ≤ n → TellsLeast e plan p u (placed 0 (get_or o u 0))
  -- document 02, ask 2: "Any stretch, across the frame's end too, is answered from it and equals the count by walking": what `held` tells in edition 1, for "Ask 2 goes on counting owned ticks"
  pub counts_walked :
      (plan ps list : List ℕ) (p s n : ℕ) (t : Told) → TellsCounted plan ps list p s n t → t.number ≡ 0 → TellsHeld 1 plan p s n t
  -- fill, then change, then held: neither is refused, and what is told is held of the changed plan
  pub counts_follow :
      (plan ps list o plan' o' : List ℕ) (tick owner p s n : ℕ) (t u v : Told) → TellsFill plan ps list o t → t.number ≡ 0
      → TellsChange plan ps o tick owner plan' o' u → owner ≤ partitions ps → tick < length plan
      → TellsCounted plan' ps o' p s n v → counts.Named ps p → counts.Within plan s n
      → (u ≡ placed 0 0) × (v ≡ placed 0 (held Own (set plan tick owner) p n s))
  -- document 02, ask 4: "both give pass or fail alike for every plan and task table", and refuse alike; the tick is never above the point
  pub engines_alike :
      (e g : ℕ) (plan ps ts : List ℕ) (place : ℕ) (t u : Told) → TellsVerdict e g plan ps ts place t → TellsPlain e g plan ps ts place u
      → ToldAlike t u
  -- document 02, ask 7: "When a task fails, his engineer wants the reason."
  pub page_says :
      (e g : ℕ) (plan ps ts : List ℕ) (place : ℕ) (list o : List ℕ) (t u : Told) → TellsPage e g plan ps ts place list o t → TellsVerdict e g plan ps ts place u
      → PageSays e plan ts (place - 1) list o t u
  -- document 02, ask 6: a plan that is accepted in edition 2 is so in edition 1, and a task that passes there, by either engine, passes here
  pub accepted_before : (e g : ℕ) (plan ps : List ℕ) (t u : Told) → TellsCheck e g plan ps t → t.number ≡ 0 → TellsCheck 1 g plan ps u → u.number ≡ 0
  pub passed_before : PassedBefore TellsVerdict
  pub plain_passed_before : PassedBefore TellsPlain
  pub open_afresh : (k k' : Desk) (l l' : List Job) (t : Told) → TellsOpen k l k' l' t → ¬ (t.number ≡ 13) → Afresh k' l'
  pub request_afresh :
      (k k' : Desk) (l l' : List Job) (time c d : ℕ) (t : Told) → TellsRequest k l time c d k' l' t → ¬ (t.number ≡ 13) → Afresh k' l'
  -- 13 to 17 refuse exactly where something that they ask for fails
  pub lower_exactly :
      (k k' : Desk) (l l' : List Job) (time c d : ℕ) (t : Told) → TellsRequest k l time c d k' l' t
      → (¬ ToldAs lower t) ↔ desk.Ready k.clock k.count l time c d
  -- document 02, ask 1: "A request that no lower number refuses is then taken exactly when some place .. keeps every deadline."
  pub taken_exactly :
      (k k' : Desk) (l l' : List Job) (time c d : ℕ) (t : Told) → TellsRequest k l time c d k' l' t → ¬ ToldAs lower t
      → (t.number ≡ 0) ↔ desk.Fits time c d (kept time (take k.count l))
  -- "18 keeps its number and gets the narrower meaning."
  pub no_place_exactly :
      (k k' : Desk) (l l' : List Job) (time c d : ℕ) (t : Told) → TellsRequest k l time c d k' l' t
      → (t.number ≡ 18) ↔ (¬ ToldAs lower t × ¬ desk.Fits time c d (kept time (take k.count l)))
  -- "With its 18 the desk gives the lowest place with the largest room, that room, and whether the request's own deadline or a listed job's binds it"
  pub no_place_explained :
      (k k' : Desk) (l l' : List Job) (time c d : ℕ) (t : Told) → TellsRequest k l time c d k' l' t → t.number ≡ 18
      → Explains time c d (kept time (take k.count l)) t
  -- and so many ticks are taken, just there
  pub no_place_room_taken :
      (k k' : Desk) (l l' : List Job) (time c d : ℕ) (t : Told) → TellsRequest k l time c d k' l' t → t.number ≡ 18 → 1 ≤ t.second
      → (k₂ : Desk) (l₂ : List Job) (u : Told) → TellsRequest k l time t.second d k₂ l₂ u
      → u ≡ telling 0 t.first (start_at time (kept time (take k.count l)) t.first) 0 0
  -- "s is t for place 0, else the end of the job before"
  pub taken_start :
      (k k' : Desk) (l l' : List Job) (time c d : ℕ) (t : Told) → TellsRequest k l time c d k' l' t → t.number ≡ 0
      → t.second ≡ start_at time (kept time (take k.count l)) t.first
  -- document 02, ask 8: it "never leads to a move beyond a job's flexibility", from the jobs left to those in the caller's table
  pub never_too_far :
      (k k' : Desk) (l l' : List Job) (time c d : ℕ) (t : Told) → TellsRequest k l time c d k' l' t → t.number ≡ 0
      → desk.MovesWithin (kept time (take k.count l)) t.first l'
  -- after 16 the first job in the caller's table is running, and a request when it ends is not refused with 16
  pub busy_ends :
      (k k' : Desk) (l l' : List Job) (time c d : ℕ) (t : Told) → TellsRequest k l time c d k' l' t → t.number ≡ 16
      → (start (get_or l' 0 none) < time) × (time < ends (get_or l' 0 none))
      × ((u c₂ d₂ : ℕ) (k₂ : Desk) (l₂ : List Job) (t₂ : Told) → u ≡ ends (get_or l' 0 none) → TellsRequest k' l' u c₂ d₂ k₂ l₂ t₂ → ¬ (t₂.number ≡ 16))

-- over what the checker and an engine tell: accepted and passed, "every job of that task ends within D in every legal run, even if other tasks fail". A pass is
-- told with its point or tick, which is 1 or more. Document 02, ask 6: it "holds for both editions, jobs running in service ticks only".
abbrev pub EndsInTime : (ℕ → ℕ → List ℕ → List ℕ → List ℕ → ℕ → Told → Type 0) → Type 0
EndsInTime tells =
    (e g : ℕ) (plan ps ts : List ℕ) (place : ℕ) (t u : Told) → TellsCheck e g plan ps t → t.number ≡ 0
    → tells e g plan ps ts place u → u.number ≡ 0 → 1 ≤ u.first
    → (N start : ℕ) (work : ℕ → ℕ → ℕ) (ran : ℕ → Ran) → LegalTo N (rule_of e) plan start ts work ran
    → (r : ℕ) → r + deadline ts (place - 1) ≤ N → done ran (place - 1) r (r + deadline ts (place - 1)) ≡ work (place - 1) r

-- the same of runs without end
abbrev pub EndsInTimeForEver : (ℕ → ℕ → List ℕ → List ℕ → List ℕ → ℕ → Told → Type 0) → Type 0
EndsInTimeForEver tells =
    (e g : ℕ) (plan ps ts : List ℕ) (place : ℕ) (t u : Told) → TellsCheck e g plan ps t → t.number ≡ 0
    → tells e g plan ps ts place u → u.number ≡ 0 → 1 ≤ u.first
    → (start : ℕ) (work : ℕ → ℕ → ℕ) (ran : ℕ → Ran) → Legal (rule_of e) plan start ts work ran
    → (r : ℕ) → done ran (place - 1) r (r + deadline ts (place - 1)) ≡ work (place - 1) r

-- DEMAND 3: "Plan accepted and task passes ⇒ every job of that task ends within D in every legal run, even if other tasks fail. What the harmonic rule writes
-- is always accepted; it refuses for want of ticks only if no plan of any length serves."
pub record Demand3 : Type 0 where
  pub ends_in_time : EndsInTime TellsVerdict
  pub ends_in_time_for_ever : EndsInTimeForEver TellsVerdict
  -- document 02, ask 4: from the plain engine's pass too
  pub plain_ends_in_time : EndsInTime TellsPlain
  pub plain_ends_in_time_for_ever : EndsInTimeForEver TellsPlain
  pub runs_exist : theory.LegalExists
  pub runs_unique : theory.LegalOne
  -- what the builder leaves in the ticks of its frame, the checker accepts with the same granule, in edition 1: "Demand 3's second half is for edition 1"
  pub built_serves :
      (g : ℕ) (ps out o : List ℕ) (t u : Told) → TellsBuild g ps out o t → t.number ≡ 0 → TellsCheck 1 g (take t.first o) ps u → u.number ≡ 0
  -- 11 exactly when the sum of q·H/m is above H
  pub want_exactly :
      (g : ℕ) (ps out o : List ℕ) (t : Told) → TellsBuild g ps out o t
      → (t.number ≡ 11) ↔ (GoodTables (granules g) longest ps [] × Harmonic ps × (frame ps < all_wanted (wanted (granules g) ps) ps (frame ps)))
  -- "Then no plan of any frame serves the table", and the checker accepts none, in any edition
  pub want_none : (g : ℕ) (ps out o : List ℕ) (t : Told) → TellsBuild g ps out o t → t.number ≡ 11 → (rule : Rule) (plan : List ℕ) → ¬ Serves rule (wanted (granules g) ps) plan ps
  pub want_checked :
      (g : ℕ) (ps out o : List ℕ) (t : Told) → TellsBuild g ps out o t → t.number ≡ 11 → (e : ℕ) (plan : List ℕ) (u : Told) → TellsCheck e g plan ps u → Refused u

-- all of it
pub record Demands : Type 2 where
  pub entries : (M : Type 1) (𝓤 : Ura M) (𝓛 : Logic 𝓤) (mem : Memory → SProp 𝓤) (run : Routine → Fun 𝓤) → Entries 𝓛 mem run
  pub first : Demand1
  pub second : Demand2
  pub third : Demand3
