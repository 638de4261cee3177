-- What the checker answers, by a rule of which owned ticks serve, where the partition at place k wants q k. Places count from 0 here; those reported count from 1. Assumes nothing.
use Rattle.std.specs.Prelude.{ℕ, ◌+◌, ◌≡◌, List, [], Bool, length, ltb, Result, Ok, Err}
use Rattle.rules.specs.Walk.{pick, first, some}
use Rattle.rules.specs.Table.{partitions, cycle}
use Rattle.rules.specs.Terms.{rule_in, wanted}
use Rattle.rules.specs.declared.Terms.{Terms}
use Rattle.tables.specs.Tables.{unless, tables_of, ticks_judged}
use Rattle.rules.specs.declared.Refusal.{Refusal}
use Rattle.rules.specs.declared.Refusal.TheVariants.{Shortfall}
use Rattle.rules.specs.declared.Rule.{Rule}
use Rattle.theory.specs.Plan.{held}

-- "holds at least q ticks of that partition": the stretch of place k that starts at s holds too little
unfoldable pub short_at : Rule → (ℕ → ℕ) → List ℕ → List ℕ → ℕ → ℕ → Bool
short_at rule q plan ps k s = ltb (held rule plan (k + 1) (cycle ps k) s) (q k)

-- "For 9: lowest partition, then lowest start, and the scan stops at the first shortfall": "partition, start, held, wanted"
unfoldable pub scan_of : Rule → (ℕ → ℕ) → List ℕ → List ℕ → Result (Unit {0}) Refusal
scan_of rule q plan ps =
    let k = first (λ k. some (short_at rule q plan ps k) (length plan)) (partitions ps) in
    let s = first (short_at rule q plan ps k) (length plan) in
    pick (ltb k (partitions ps)) (Err (Shortfall (k + 1) s (held rule plan (k + 1) (cycle ps k) s) (q k))) (Ok tt)

-- "bad .. run (or tick) record", then 9
unfoldable pub plan_check_of : Rule → (ℕ → ℕ) → List ℕ → List ℕ → Result (Unit {0}) Refusal
plan_check_of rule q plan ps = unless Err (ticks_judged plan ps) (scan_of rule q plan ps)

-- "the checker 3, 6, 8, 9" with 2 before and "21, after 3", or accepted
unfoldable pub check_of : Terms → List ℕ → List ℕ → Result (Unit {0}) Refusal
check_of terms plan ps = unless Err (tables_of terms (length plan) ps []) (plan_check_of (rule_in terms) (wanted terms ps) plan ps)

-- the answer r of the call
abbrev pub Checks : Terms → List ℕ → List ℕ → Result (Unit {0}) Refusal → Type 0
Checks terms plan ps r = r ≡ check_of terms plan ps
