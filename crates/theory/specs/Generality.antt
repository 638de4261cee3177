-- The same theorems of any competitors and any server. Who audits document 01 may skip this file and specs/Competition.antt: every promise about tasks is
-- stated without them, in specs/Theorems.antt. Assumes nothing.
use Rattle.std.specs.Prelude.{◌≡◌, ◌↔◌, Bool, ℕ, suc, ◌+◌, ◌≤◌, ◌<◌, T}
use Rattle.theory.specs.Run.{Ran, done}
use Rattle.theory.specs.Load.{Load, last_point, Passes, first_point}
use Rattle.theory.specs.Competition.{LowerBound, Brings, Queue}

-- trying the scheduling points is enough, of any competitors and any bound that grows
abbrev pub LoadPoints : Type 0
LoadPoints =
    (L : Load) (low : ℕ → ℕ) → ((t : ℕ) → low t ≤ low (suc t)) → (i : ℕ) → ((j : ℕ) → j < i → T (L.rival i j) → 0 < L.period j)
    → Passes L low i ↔ (first_point L low i ≤ last_point L i)

-- The core of the run theorem: any competitors, any server, any lower bound of its service. Of lower competitors and of those with another server nothing is asked.
abbrev pub LoadTheorem : Type 0
LoadTheorem =
    (L : Load) (i : ℕ) → T (L.rival i i) → L.deadline i ≤ L.period i → ((j : ℕ) → j < i → T (L.rival i j) → 0 < L.period j)
    → (sv : ℕ → Bool) (low : ℕ → ℕ) → LowerBound sv low → Passes L low i
    → (N : ℕ) (rel work : ℕ → ℕ → ℕ) (ran : ℕ → Ran) → Brings L i rel work → Queue N (L.rival i) sv rel work ran
    → (a : ℕ) → a + L.deadline i ≤ N → done ran i a (a + L.deadline i) ≡ work i a
