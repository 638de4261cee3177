-- What the verdict answers, by either engine. Assumes nothing.
use Rattle.std.specs.Prelude.{ℕ, ◌-◌, ◌≡◌, List, ◌&&◌, length, leb, Option, None, Some, Result, Ok, Err}
use Rattle.rules.specs.Walk.{pick}
use Rattle.rules.specs.Table.{tasks, deadline}
use Rattle.rules.specs.Terms.{rule_in, wanted}
use Rattle.rules.specs.declared.Terms.{Terms}
use Rattle.tables.specs.Tables.{tables_of, unless}
use Rattle.rules.specs.Refusals.{placed, told_by}
use Rattle.rules.specs.declared.Told.{Told}
use Rattle.rules.specs.declared.Rule.{Rule}
use Rattle.rules.specs.declared.Refusal.TheVariants.{Task}
use Rattle.rules.specs.declared.Refusal.{Refusal}
use Rattle.plan_check.specs.Check.{plan_check_of}
use Rattle.theory.specs.Task.{task_point, task_tick}

-- "a place outside the table is 7 with place 0, after the other 7s"; then 8 and 9, where the partition at place k wants q k
unfoldable pub place_of : Rule → (ℕ → ℕ) → List ℕ → List ℕ → List ℕ → ℕ → Result (Unit {0}) Refusal
place_of rule q plan ps ts place = pick (leb 1 place && leb place (tasks ts)) (plan_check_of rule q plan ps) (Err (Task 0))

-- "the verdict 3, 6, 7, 8, 9" with 2 before and "21, after 3"
unfoldable pub answerable_of : Terms → List ℕ → List ℕ → List ℕ → ℕ → Result (Unit {0}) Refusal
answerable_of terms plan ps ts place = unless Err (tables_of terms (length plan) ps ts) (place_of (rule_in terms) (wanted terms ps) plan ps ts place)

-- a pass at t, or a fail where t is past D
unfoldable pub pass_at : ℕ → ℕ → Result (Option ℕ) Refusal
pass_at d t = pick (leb t d) (Ok (Some t)) (Ok None)

-- a refusal, or else a pass at the t that the engine finds by the edition's rule, unless it is past D
unfoldable pub verdict_by : (Rule → List ℕ → List ℕ → ℕ → ℕ) → Terms → List ℕ → List ℕ → List ℕ → ℕ → Result (Option ℕ) Refusal
verdict_by engine terms plan ps ts place = unless Err (answerable_of terms plan ps ts place) (pass_at (deadline ts (place - 1)) (engine (rule_in terms) plan ts (place - 1)))

-- "A pass reports the smallest scheduling point that holds"
abbrev pub verdict_of : Terms → List ℕ → List ℕ → List ℕ → ℕ → Result (Option ℕ) Refusal
verdict_of = verdict_by task_point

-- document 02, ask 4: "every tick t from 1 to D, no scheduling points .. It reports the smallest tick that holds"
abbrev pub plain_of : Terms → List ℕ → List ℕ → List ℕ → ℕ → Result (Option ℕ) Refusal
plain_of = verdict_by task_tick

-- the answer r of the call
abbrev pub Judges : Terms → List ℕ → List ℕ → List ℕ → ℕ → Result (Option ℕ) Refusal → Type 0
Judges terms plan ps ts place r = r ≡ verdict_of terms plan ps ts place

-- and of the plain engine's
abbrev pub JudgesPlainly : Terms → List ℕ → List ℕ → List ℕ → ℕ → Result (Option ℕ) Refusal → Type 0
JudgesPlainly terms plan ps ts place r = r ≡ plain_of terms plan ps ts place

-- 0 and the point or the tick, or 0 for a fail
abbrev pub told_pass : Option ℕ → Told
told_pass (Some t) = placed 0 t
told_pass None = placed 0 0

abbrev pub told_judged : Result (Option ℕ) Refusal → Told
told_judged = told_by told_pass
