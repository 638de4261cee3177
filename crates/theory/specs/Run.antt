-- A legal run of the whole box: what runs in each tick. Assumes nothing.
-- A job is named by its task and the time of its arrival. `work j r` is how many ticks the job (j, r) needs, 0 where
-- none arrives. Time 0 of the run is tick `start` of the repeated plan, and nothing is waiting there but what is released there.
use Rattle.std.specs.Prelude.{◌≡◌, ◌⊎◌, List, ℕ, ◌+◌, ◌≤◌, ◌<◌, eqb}
use Rattle.rules.specs.Walk.{only, sum}
use Rattle.rules.specs.Table.{partition, budget, period, tasks}
use Rattle.rules.specs.declared.Rule.{Rule}
use Rattle.theory.specs.Plan.{service}

-- what a tick runs
pub data Ran : Type 0 where
  nothing : Ran
  job : ℕ → ℕ → Ran

-- 1 where the tick ran the job (j, r)
unfoldable pub hit : Ran → ℕ → ℕ → ℕ
hit nothing j r = 0
hit (job a b) j r = only (eqb a j) (only (eqb b r) 1)

-- in how many ticks before time n the job (j, r) ran
unfoldable pub done : (ℕ → Ran) → ℕ → ℕ → ℕ → ℕ
done ran j r n = sum (λ k. hit (ran k) j r) n

-- at time n the job (j, a) is released, and not finished; `rel j a` is the time of its release
abbrev pub Waiting : (ℕ → ℕ → ℕ) → (ℕ → ℕ → ℕ) → (ℕ → Ran) → ℕ → ℕ → ℕ → Type 0
Waiting rel work ran n j a = (rel j a ≤ n) × (done ran j a n < work j a)

-- a task's job is released when it arrives
abbrev pub at_arrival : ℕ → ℕ → ℕ
at_arrival j a = a

-- "the waiting job of the highest priority .., the older of one task first": the job (j, r) goes before (a, b), or is it
abbrev pub Before : ℕ → ℕ → ℕ → ℕ → Type 0
Before j r a b = (j < a) ⊎ ((j ≡ a) × (r ≤ b))

-- What may run, where `mine` says whose jobs the tick is for, and `waits` which jobs wait:
-- nothing, where none of its jobs waits; else the one of them that goes before all others.
abbrev pub Runs : (ℕ → Type 0) → (ℕ → ℕ → Type 0) → Ran → Type 0
Runs mine waits nothing = (a b : ℕ) → mine a → waits a b → ⊥
Runs mine waits (job j r) = mine j × waits j r × ((a b : ℕ) → mine a → waits a b → Before j r a b)

-- "jobs of a task are released at least T apart and need 1 to C ticks"
pub record Releases (ts : List ℕ) (work : ℕ → ℕ → ℕ) : Type 0 where
  pub listed : (j r : ℕ) → 0 < work j r → j < tasks ts
  pub within : (j r : ℕ) → work j r ≤ budget ts j
  pub apart : (j a b : ℕ) → 0 < work j a → 0 < work j b → a < b → a + period ts j ≤ b

-- "in each own tick the waiting job of the highest priority runs": a legal run of N ticks
pub record LegalTo (N : ℕ) (rule : Rule) (plan : List ℕ) (start : ℕ) (ts : List ℕ) (work : ℕ → ℕ → ℕ) (ran : ℕ → Ran) : Type 0 where
  pub releases : Releases ts work
  pub runs : (n : ℕ) → n < N → Runs (λ j. partition ts j ≡ service rule plan (start + n)) (Waiting at_arrival work ran n) (ran n)

-- without end
abbrev pub Legal : Rule → List ℕ → ℕ → List ℕ → (ℕ → ℕ → ℕ) → (ℕ → Ran) → Type 0
Legal rule plan start ts work ran = (N : ℕ) → LegalTo N rule plan start ts work ran
