-- What the answers of both engines mean, that they are alike, and demand 3's first half over the checker's and either engine's. Assumes nothing.
use Rattle.std.specs.Prelude.{ℕ, ◌+◌, ◌-◌, ◌≤◌, ◌≡◌, ◌↔◌, true, List, length, Option, None, Some, Result, Ok, Err}
use Rattle.rules.specs.Walk.{Every}
use Rattle.rules.specs.Table.{partitions, partition, tasks, deadline, good_tick}
use Rattle.rules.specs.Terms.{granules, rule_in, wanted}
use Rattle.rules.specs.declared.Terms.{Terms}
use Rattle.tables.specs.Tables.{GoodTables}
use Rattle.rules.specs.declared.Rule.{Rule}
use Rattle.theory.specs.Plan.{least}
use Rattle.theory.specs.Run.{Ran, done, LegalTo, Legal}
use Rattle.theory.specs.Load.{demand, point}
use Rattle.theory.specs.Task.{task_load, TaskPasses}
use Rattle.rules.specs.declared.Refusal.{Refusal}
use Rattle.plan_check.specs.Check.{check_of}
use Rattle.plan_check.specs.Theorems.{ShortFrom0}
use Rattle.rules.specs.Refusals.{placed}
use Rattle.task_verdict.specs.Verdict.{verdict_of, plain_of, Judges, JudgesPlainly, told_judged}

-- nothing is refused: the plan is accepted, the tables are good, and the place is in the table
pub record Answered (terms : Terms) (plan ps ts : List ℕ) (place : ℕ) : Type 0 where
  pub accepted : check_of terms plan ps ≡ (Ok tt)
  pub good : GoodTables terms (length plan) ps ts
  pub from_1 : 1 ≤ place
  pub listed : place ≤ tasks ts

-- ==== of either engine: `judge` is what its entry answers

module _ (judge : Terms → List ℕ → List ℕ → List ℕ → ℕ → Result (Option ℕ) Refusal) where
  -- a verdict is given exactly then
  abbrev pub AnsweredExactly : Type 0
  AnsweredExactly = (terms : Terms) (plan ps ts : List ℕ) (place : ℕ) → ((r : _) → ¬ (judge terms plan ps ts place ≡ Err r)) ↔ Answered terms plan ps ts place

  -- "a place outside the table is 7 with place 0, after the other 7s", and before 8 and 9: whatever the plan
  abbrev pub OutsideTable : Type 0
  OutsideTable =
      (terms : Terms) (plan ps ts : List ℕ) (place : ℕ)
      → (told_judged (judge terms plan ps ts place) ≡ placed 7 0) ↔ (GoodTables terms (length plan) ps ts × ¬ ((1 ≤ place) × (place ≤ tasks ts)))

  -- "Task i passes exactly when demand(t) ≤ least(t) for some t from 1 to D."
  abbrev pub PassExactly : Type 0
  PassExactly =
      (terms : Terms) (plan ps ts : List ℕ) (place : ℕ)
      → ((t : ℕ) × (judge terms plan ps ts place ≡ Ok (Some t))) ↔ (Answered terms plan ps ts place × TaskPasses (rule_in terms) plan ts (place - 1))

  abbrev pub FailExactly : Type 0
  FailExactly =
      (terms : Terms) (plan ps ts : List ℕ) (place : ℕ)
      → (judge terms plan ps ts place ≡ (Ok None)) ↔ (Answered terms plan ps ts place × ¬ TaskPasses (rule_in terms) plan ts (place - 1))

  -- Demand 3, first half: "Plan accepted and task passes ⇒ every job of that task ends within D in every legal run, even if other tasks fail." By ask 6 it "holds for both editions,
  -- jobs running in service ticks only": a run is legal by the call's edition
  abbrev pub EndsInTime : Type 0
  EndsInTime =
      (terms : Terms) (plan ps ts : List ℕ) (place t : ℕ) → check_of terms plan ps ≡ (Ok tt) → judge terms plan ps ts place ≡ Ok (Some t)
      → (N start : ℕ) (work : ℕ → ℕ → ℕ) (ran : ℕ → Ran) → LegalTo N (rule_in terms) plan start ts work ran
      → (r : ℕ) → r + deadline ts (place - 1) ≤ N → done ran (place - 1) r (r + deadline ts (place - 1)) ≡ work (place - 1) r

  -- the same of runs without end
  abbrev pub EndsInTimeForEver : Type 0
  EndsInTimeForEver =
      (terms : Terms) (plan ps ts : List ℕ) (place t : ℕ) → check_of terms plan ps ≡ (Ok tt) → judge terms plan ps ts place ≡ Ok (Some t)
      → (start : ℕ) (work : ℕ → ℕ → ℕ) (ran : ℕ → Ran) → Legal (rule_in terms) plan start ts work ran
      → (r : ℕ) → done ran (place - 1) r (r + deadline ts (place - 1)) ≡ work (place - 1) r

  -- document 02, ask 5: where a place of the partitions wants more than its cycle has, 9 as the checker tells it
  abbrev pub VerdictPastCycle : Type 0
  VerdictPastCycle =
      (terms : Terms) (plan ps ts : List ℕ) (place : ℕ) → GoodTables terms (length plan) ps ts → (1 ≤ place) × (place ≤ tasks ts)
      → Every (good_tick (partitions ps) plan) (length plan)
      → ShortFrom0 (rule_in terms) (wanted terms ps) plan ps (told_judged (judge terms plan ps ts place))

  -- document 02, ask 6: what passes in edition 2 passes in edition 1
  abbrev pub PassedBefore : Type 0
  PassedBefore =
      (terms : Terms) (plan ps ts : List ℕ) (place t : ℕ) → judge terms plan ps ts place ≡ Ok (Some t)
      → (u : ℕ) × (judge (granules terms.granule) plan ps ts place ≡ Ok (Some u))

  pub record Engine : Type 0 where
    pub answered_exactly : AnsweredExactly
    pub outside_table : OutsideTable
    pub verdict_past_cycle : VerdictPastCycle
    pub pass_exactly : PassExactly
    pub fail_exactly : FailExactly
    pub passed_before : PassedBefore
    pub ends_in_time : EndsInTime
    pub ends_in_time_for_ever : EndsInTimeForEver

-- ==== of each

-- "A pass reports the smallest scheduling point that holds."
abbrev pub PassPoint : Type 0
PassPoint =
    (terms : Terms) (plan ps ts : List ℕ) (place t : ℕ) → verdict_of terms plan ps ts place ≡ Ok (Some t)
    → (point (task_load ts) (place - 1) t ≡ true) × (demand (task_load ts) (place - 1) t ≤ least (rule_in terms) plan (partition ts (place - 1)) t)
    × ((u : ℕ) → point (task_load ts) (place - 1) u ≡ true → demand (task_load ts) (place - 1) u ≤ least (rule_in terms) plan (partition ts (place - 1)) u → t ≤ u)

-- document 02, ask 4: "every tick t from 1 to D .. It reports the smallest tick that holds"
pub record EarliestTick (rule : Rule) (plan ts : List ℕ) (i t : ℕ) : Type 0 where
  pub from_1 : 1 ≤ t
  pub to_deadline : t ≤ deadline ts i
  pub holds : demand (task_load ts) i t ≤ least rule plan (partition ts i) t
  pub smallest : (u : ℕ) → 1 ≤ u → demand (task_load ts) i u ≤ least rule plan (partition ts i) u → t ≤ u

abbrev pub PassTick : Type 0
PassTick =
    (terms : Terms) (plan ps ts : List ℕ) (place t : ℕ)
    → (plain_of terms plan ps ts place ≡ Ok (Some t)) ↔ (Answered terms plan ps ts place × EarliestTick (rule_in terms) plan ts (place - 1) t)

-- ==== of both

-- an answer without its point or tick
abbrev pub without_tick : Result (Option ℕ) Refusal → Result (Option ℕ) Refusal
without_tick (Ok (Some t)) = Ok (Some 0)
without_tick (Ok None) = (Ok None)
without_tick (Err r) = Err r

-- "both give pass or fail alike for every plan and task table", and refuse alike
abbrev pub EnginesAlike : Type 0
EnginesAlike = (terms : Terms) (plan ps ts : List ℕ) (place : ℕ) → without_tick (plain_of terms plan ps ts place) ≡ without_tick (verdict_of terms plan ps ts place)

-- the tick "may be below the scheduling point", and is never above it
abbrev pub TickAtMostPoint : Type 0
TickAtMostPoint = (terms : Terms) (plan ps ts : List ℕ) (place t u : ℕ) → verdict_of terms plan ps ts place ≡ Ok (Some t) → plain_of terms plan ps ts place ≡ Ok (Some u) → u ≤ t

-- "any two outcomes it permits are equal"
abbrev pub VerdictOne : Type 0
VerdictOne = (terms : Terms) (plan ps ts : List ℕ) (place : ℕ) (r r' : Result (Option ℕ) Refusal) → Judges terms plan ps ts place r → Judges terms plan ps ts place r' → r ≡ r'

abbrev pub PlainOne : Type 0
PlainOne = (terms : Terms) (plan ps ts : List ℕ) (place : ℕ) (r r' : Result (Option ℕ) Refusal) → JudgesPlainly terms plan ps ts place r → JudgesPlainly terms plan ps ts place r' → r ≡ r'

pub record Proved : Type 0 where
  pub by_points : Engine verdict_of
  pub by_ticks : Engine plain_of
  pub pass_point : PassPoint
  pub pass_tick : PassTick
  pub engines_alike : EnginesAlike
  pub tick_at_most_point : TickAtMostPoint
  pub verdict_one : VerdictOne
  pub plain_one : PlainOne
