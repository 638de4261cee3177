-- What the builder's answers mean. Assumes nothing.
use Rattle.std.specs.Prelude.{ℕ, ◌≤◌, ◌<◌, ◌≡◌, ◌↔◌, List, [], take, Result, Ok}
use Rattle.rules.specs.Limits.{longest}
use Rattle.rules.specs.Table.{partitions, cycle}
use Rattle.rules.specs.Terms.{given, granules, wanted}
use Rattle.rules.specs.declared.Terms.{Terms}
use Rattle.tables.specs.Tables.{GoodTables}
use Rattle.rules.specs.Refusals.{placed, told_count}
use Rattle.rules.specs.declared.Rule.{Rule}
use Rattle.theory.specs.Plan.{Serves}
use Rattle.theory.specs.Harmonic.{Harmonic, frame, all_wanted}
use Rattle.rules.specs.declared.Refusal.{Refusal}
use Rattle.plan_check.specs.Check.{check_of}
use Rattle.plan_build.specs.Build.{build_of, Builds}

-- "What the harmonic rule writes is always accepted", and "Demand 3's second half is for edition 1": of what `build` leaves in the frame's ticks `check` answers there that it serves
abbrev pub BuiltServes : Type 0
BuiltServes = (terms : Terms) (ps out o : List ℕ) (h : ℕ) → Builds terms ps out o (Ok h) → check_of (granules terms.granule) (take h o) ps ≡ (Ok tt)

-- "It is refused for want of ticks exactly when the sum of q·H/m is above H."
abbrev pub WantExactly : Type 0
WantExactly = (terms : Terms) (ps : List ℕ) (room : ℕ) → ((told_count (build_of terms ps room)).number ≡ 11) ↔ (GoodTables terms longest ps [] × Harmonic ps × (frame ps < all_wanted (wanted terms ps) ps (frame ps)))

-- document 02, ask 5: "If q passes m the sum rule refuses it."
abbrev pub PastCycleWant : Type 0
PastCycleWant =
    (terms : Terms) (ps : List ℕ) (room : ℕ) → GoodTables terms longest ps [] → Harmonic ps
    → (k : ℕ) → k < partitions ps → cycle ps k < wanted terms ps k → (told_count (build_of terms ps room)).number ≡ 11

-- "Then no plan of any frame serves the table."
abbrev pub WantNone : Type 0
WantNone = (terms : Terms) (ps : List ℕ) (room : ℕ) → (told_count (build_of terms ps room)).number ≡ 11 → (rule : Rule) (plan : List ℕ) → ¬ Serves rule (wanted terms ps) plan ps

-- the same of the checker's answers, in every edition
abbrev pub WantChecked : Type 0
WantChecked = (terms : Terms) (ps : List ℕ) (room : ℕ) → (told_count (build_of terms ps room)).number ≡ 11 → (e : ℕ) (plan : List ℕ) → ¬ (check_of (given e terms.granule) plan ps ≡ (Ok tt))

-- 10 exactly when of some two cycles neither divides the other
abbrev pub UnharmonicExactly : Type 0
UnharmonicExactly = (terms : Terms) (ps : List ℕ) (room : ℕ) → ((told_count (build_of terms ps room)).number ≡ 10) ↔ (GoodTables terms longest ps [] × ¬ Harmonic ps)

-- a plan is written whenever the table is good and harmonic, the ticks suffice and the output is long enough
abbrev pub FrameExactly : Type 0
FrameExactly =
    (terms : Terms) (ps : List ℕ) (room h : ℕ)
    → (told_count (build_of terms ps room) ≡ placed 0 h) ↔ (GoodTables terms longest ps [] × Harmonic ps × (all_wanted (wanted terms ps) ps (frame ps) ≤ frame ps) × (h ≡ frame ps) × (h ≤ room))

-- "any two outcomes it permits are equal": the answer, and what the output then holds
abbrev pub BuildOne : Type 0
BuildOne = (terms : Terms) (ps out o o' : List ℕ) (r r' : Result ℕ Refusal) → Builds terms ps out o r → Builds terms ps out o' r' → (r ≡ r') × (o ≡ o')

pub record Proved : Type 0 where
  pub built_serves : BuiltServes
  pub want_exactly : WantExactly
  pub past_cycle_want : PastCycleWant
  pub want_none : WantNone
  pub want_checked : WantChecked
  pub unharmonic_exactly : UnharmonicExactly
  pub frame_exactly : FrameExactly
  pub build_one : BuildOne
