-- What the checker's answers mean. Assumes nothing.
use Rattle.std.specs.Prelude.{ℕ, ◌+◌, ◌≤◌, ◌<◌, ◌≡◌, ◌⊎◌, ◌↔◌, List, [], length, Result, Ok}
use Rattle.rules.specs.Walk.{Every}
use Rattle.rules.specs.Table.{partitions, cycle, good_tick}
use Rattle.rules.specs.Terms.{granules, filed, rule_in, wanted}
use Rattle.rules.specs.declared.Terms.{Terms}
use Rattle.tables.specs.Tables.{GoodTables}
use Rattle.rules.specs.Refusals.{telling, told_done}
use Rattle.rules.specs.declared.Told.{Told}
use Rattle.rules.specs.declared.Refusal.{Refusal}
use Rattle.rules.specs.declared.Rule.{Rule}
use Rattle.theory.specs.Plan.{held, Serves}
use Rattle.plan_check.specs.Check.{check_of, Checks}

-- accepted exactly when the table is good, each owner is 0 or a partition of it, and "every stretch .., from any start and across the frame's end too, holds at least q ticks"
abbrev pub CheckServes : Type 0
CheckServes =
    (terms : Terms) (plan ps : List ℕ)
    → (check_of terms plan ps ≡ (Ok tt))
    ↔ (GoodTables terms (length plan) ps [] × Every (good_tick (partitions ps) plan) (length plan) × Serves (rule_in terms) (wanted terms ps) plan ps)

-- a plan that is accepted with a granule is accepted without
abbrev pub AcceptedWithout : Type 0
AcceptedWithout = (terms : Terms) (plan ps : List ℕ) → check_of terms plan ps ≡ (Ok tt) → check_of (filed terms.edition) plan ps ≡ (Ok tt)

-- document 02, ask 6: and one that is accepted in edition 2 is accepted in edition 1
abbrev pub AcceptedBefore : Type 0
AcceptedBefore = (terms : Terms) (plan ps : List ℕ) → check_of terms plan ps ≡ (Ok tt) → check_of (granules terms.granule) plan ps ≡ (Ok tt)

-- "partition, start, held, wanted": the stretch falls short, and is the lowest partition's lowest start that does
pub record FallsShort (rule : Rule) (q : ℕ → ℕ) (plan ps : List ℕ) (p s h w : ℕ) : Type 0 where
  pub place : ℕ
  pub partition : p ≡ place + 1
  pub inside : place < partitions ps
  pub in_frame : s < length plan
  pub holds : h ≡ held rule plan p (cycle ps place) s
  pub wants : w ≡ q place
  pub short : h < w
  pub lowest_start : (u : ℕ) → u < s → w ≤ held rule plan p (cycle ps place) u
  pub lowest_partition : (k : ℕ) → k < place → (u : ℕ) → q k ≤ held rule plan (k + 1) (cycle ps k) u

-- 9 and its four values say what stands in the plan
abbrev pub CheckShort : Type 0
CheckShort =
    (terms : Terms) (plan ps : List ℕ) (p s h w : ℕ) → told_done (check_of terms plan ps) ≡ telling 9 p s h w
    → FallsShort (rule_in terms) (wanted terms ps) plan ps p s h w

-- where place k wants more than its cycle has: 9, at start 0 of that partition unless a lower one falls short
abbrev pub ShortFrom0 : Rule → (ℕ → ℕ) → List ℕ → List ℕ → Told → Type 0
ShortFrom0 rule q plan ps t =
    (k : ℕ) → k < partitions ps → cycle ps k < q k
    → (p s h w : ℕ) × (t ≡ telling 9 p s h w) × FallsShort rule q plan ps p s h w × ((p < k + 1) ⊎ ((p ≡ k + 1) × (s ≡ 0)))

abbrev pub CheckPastCycle : Type 0
CheckPastCycle =
    (terms : Terms) (plan ps : List ℕ) → GoodTables terms (length plan) ps [] → Every (good_tick (partitions ps) plan) (length plan)
    → ShortFrom0 (rule_in terms) (wanted terms ps) plan ps (told_done (check_of terms plan ps))

-- "any two outcomes it permits are equal"
abbrev pub CheckOne : Type 0
CheckOne = (terms : Terms) (plan ps : List ℕ) (r r' : Result (Unit {0}) Refusal) → Checks terms plan ps r → Checks terms plan ps r' → r ≡ r'

pub record Proved : Type 0 where
  pub check_serves : CheckServes
  pub accepted_without : AcceptedWithout
  pub accepted_before : AcceptedBefore
  pub check_short : CheckShort
  pub check_past_cycle : CheckPastCycle
  pub check_one : CheckOne
