-- The checker's scan, at the numbers that the code holds. Assumes nothing.
use Prim.Native.Nat.{ℕ, ◌+◌, ◌≤◌, ◌<◌}
use mathlib.Core.Path.{◌≡◌}
use mathlib.Core.Bool.{Bool, true, false}
use mathlib.Core.List.{List}
use lib.ListN.{length}
use borrow.Author.Tests.{lt-ltb, le-ltb}
use native.Mathlib.Omega.{arith}
use Rattle.rules.specs.Walk.{first, some}
use Rattle.rules.specs.Table.{partitions, cycle}
use Rattle.std.specs.Prelude.{Ok, Err}
use Rattle.rules.specs.declared.Refusal.{Refusal}
use Rattle.rules.specs.declared.Refusal.TheVariants.{Shortfall}
use Rattle.rules.proofs.First.{first_found, first_done}
use Rattle.rules.specs.declared.Rule.{Rule}
use Rattle.theory.specs.Plan.{held}
use Rattle.plan_check.specs.Check.{short_at, scan_of}

-- whether a stretch of place k holds too little
abbrev pub short_in : Rule → (ℕ → ℕ) → List ℕ → List ℕ → ℕ → Bool
short_in rule q plan ps k = some (short_at rule q plan ps k) (length plan)

-- the lowest start of place k that holds too little, the lowest place that has one, and what is told of them
abbrev pub short_start : Rule → (ℕ → ℕ) → List ℕ → List ℕ → ℕ → ℕ
short_start rule q plan ps k = first (short_at rule q plan ps k) (length plan)

abbrev pub short_part : Rule → (ℕ → ℕ) → List ℕ → List ℕ → ℕ
short_part rule q plan ps = first (short_in rule q plan ps) (partitions ps)

abbrev pub shortfall : Rule → (ℕ → ℕ) → List ℕ → List ℕ → ℕ → ℕ → Refusal
shortfall rule q plan ps k s = Shortfall (k + 1) s (held rule plan (k + 1) (cycle ps k) s) (q k)

-- ---- the scan's two loops

module _ (rule : Rule) (q : ℕ → ℕ) (plan ps : List ℕ) (k : ℕ) where
  pub short_no : (s h m w : ℕ) → m ≡ cycle ps k → w ≡ q k → h ≡ held rule plan (k + 1) m s → w ≤ h → short_at rule q plan ps k s ≡ false
  unfolding short_at
  short_no s h m w em ew eh l = rw (← ew, ← em, ← eh) (le-ltb h w l)

  -- no start of the partition holds too little
  pub whole : (s : ℕ) → s ≤ length plan → length plan ≤ s → first (short_at rule q plan ps k) s ≡ s → short_in rule q plan ps k ≡ false
  whole s h l e = rw (first_done _ (length plan) s h l e) (le-ltb (length plan) (length plan) (omega arith))

  -- the scan stopped at start s
  pub stopped :
      (s h m w : ℕ) → k < partitions ps → first (short_in rule q plan ps) k ≡ k → s < length plan → first (short_at rule q plan ps k) s ≡ s
      → m ≡ cycle ps k → w ≡ q k → h ≡ held rule plan (k + 1) m s → h < w
      → Err (Shortfall (k + 1) s h w) ≡ scan_of rule q plan ps
  unfolding scan_of short_at
  stopped s h m w lk ek ls es em ew eh l =
      let short : short_at rule q plan ps k s ≡ true = rw (← ew, ← em, ← eh) (lt-ltb h w l) in
      let start : short_start rule q plan ps k ≡ s = first_found _ (length plan) s ls es short in
      let here : short_in rule q plan ps k ≡ true = rw start (lt-ltb s (length plan) ls) in
      let part : short_part rule q plan ps ≡ k = first_found _ (partitions ps) k lk ek here in
      rw (part, lt-ltb k (partitions ps) lk, start, ← ew, ← em, ← eh)

module _ (rule : Rule) (q : ℕ → ℕ) (plan ps : List ℕ) where
  -- the scan ran to its end
  pub served : (k : ℕ) → k ≤ partitions ps → partitions ps ≤ k → first (short_in rule q plan ps) k ≡ k → (Ok tt) ≡ scan_of rule q plan ps
  unfolding scan_of
  served k h l e = rw (first_done _ (partitions ps) k h l e, le-ltb (partitions ps) (partitions ps) (omega arith))
