-- Document 02, ask 5: "g = 1 gives today's answers", and ask 6: edition 1 keeps its "rule for good". With edition 1 and granule 1, and in each call that is given neither, an entry's rule is
-- document 01's own, for all tables: its numbers of ticks are whole ones, all owned ticks serve, and no refusal stands before 3 or between 3 and 6. Assumes nothing.
use Rattle.std.specs.Prelude.{ℕ, ◌+◌, ◌-◌, ◌*◌, ◌≡◌, List, [], length, Result, Ok, Err}
use Rattle.rules.specs.Limits.{longest}
use Rattle.rules.specs.Walk.{pick, round_up}
use Rattle.rules.specs.Table.{cycle, num, den, deadline}
use Rattle.rules.specs.Terms.{usual, wanted}
use Rattle.rules.specs.declared.Refusal.TheVariants.{Limits}
use Rattle.rules.specs.declared.Refusal.{Refusal}
use Rattle.tables.specs.Tables.{within_limits, unless, records_judged, tables_of}
use Rattle.rules.specs.declared.Rule.{Rule}
use Rattle.rules.specs.declared.Rule.TheVariants.{Own}
use Rattle.theory.specs.Plan.{least}
use Rattle.theory.specs.Theorems.{WantsWhole}
use Rattle.theory.specs.Harmonic.{frame, harmonic_plan}
use Rattle.plan_check.specs.Check.{plan_check_of, check_of}
use Rattle.plan_build.specs.Build.{laid_of, build_of}
use Rattle.task_verdict.specs.Verdict.{place_of, pass_at, verdict_by}
use Rattle.file_write.specs.Writer.{file_of, write_of}
use Rattle.file_runs.specs.Ticks.{runs_of}
use Rattle.file_lines.specs.Lines.{partition_line}
use Rattle.file_page.specs.Page.{part_line}
use Rattle.share_line.specs.declared.Row.TheVariants.{Granule}
use Rattle.share_text.specs.Table.{row_at, granule_of}
use Rattle.share_plan.specs.Answer.{plan_runs, write_plan_of, plan_file}

-- "A partition with cycle m wants q = num·m/den, rounded up to a whole number."
abbrev pub whole_ticks : List ℕ → ℕ → ℕ
whole_ticks ps k = round_up (num ps k * cycle ps k) (den ps k)

-- "lowest number first, then lowest place": 3, 6, 7
abbrev pub tables01 : ℕ → List ℕ → List ℕ → Result (Unit {0}) Refusal
tables01 frame ps ts = pick (within_limits frame (length ps) (length ts)) (records_judged frame ps ts) (Err Limits)

-- what the writer answers of a built plan, and the builder's refusal
abbrev pub written01 : Result ℕ Refusal → List ℕ → List ℕ → ℕ → Result ℕ Refusal
written01 (Ok h) ps ts room = write_of 1 h ps ts (plan_runs usual ps) room
written01 (Err r) ps ts room = Err r

pub record GranuleOne : Type 0 where
  pub of_wants : WantsWhole
  -- of reader, writer, counts and listing too
  pub of_tables : (frame : ℕ) (ps ts : List ℕ) → tables_of usual frame ps ts ≡ tables01 frame ps ts
  -- "the checker 3, 6, 8, 9"
  pub of_check : (plan ps : List ℕ) → check_of usual plan ps ≡ unless Err (tables01 (length plan) ps []) (plan_check_of Own (whole_ticks ps) plan ps)
  -- "the builder 3, 6, 10, 11, 12", and the plan that it writes
  pub of_build : (ps : List ℕ) (room : ℕ) → build_of usual ps room ≡ unless Err (tables01 longest ps []) (laid_of (whole_ticks ps) ps room)
  pub of_plan : (ps : List ℕ) → harmonic_plan (wanted usual ps) ps ≡ harmonic_plan (whole_ticks ps) ps
  -- "the verdict 3, 6, 7, 8, 9", by either engine
  pub of_verdicts :
      (engine : Rule → List ℕ → List ℕ → ℕ → ℕ) (plan ps ts : List ℕ) (place : ℕ)
      → verdict_by engine usual plan ps ts place
      ≡ unless Err (unless Err (tables01 (length plan) ps ts) (place_of Own (whole_ticks ps) plan ps ts place))
      (pass_at (deadline ts (place - 1)) (engine Own plan ts (place - 1)))
  -- the planner: a text that gives no granule has granule 1, and its tables are judged, built and written the same: no plan that is built is refused with 9
  pub of_text : (t : List ℕ) → ((k g : ℕ) → ¬ (row_at t k ≡ Ok (Granule g))) → granule_of t ≡ 1
  pub of_planner :
      (ps ts : List ℕ) (room : ℕ) → write_plan_of usual ps ts room ≡ unless Err (tables01 longest ps ts) (written01 (build_of usual ps longest) ps ts room)
  pub of_file : (ps ts : List ℕ) → plan_file usual ps ts ≡ file_of 1 (frame ps) ps ts (runs_of (harmonic_plan (whole_ticks ps) ps))
  -- "partition 1 wants 2 in 4 least 2"
  pub of_lines :
      (plan ps : List ℕ) (k : ℕ) → part_line Own plan ps k ≡ partition_line (k + 1) (whole_ticks ps k) (cycle ps k) (least Own plan (k + 1) (cycle ps k))
