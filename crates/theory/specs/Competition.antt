-- What a run of one server brings and does, for any competitors: only specs/Generality.antt speaks of it, and nothing that is promised of tasks. Assumes nothing.
use Rattle.std.specs.Prelude.{◌≡◌, Bool, ℕ, ◌+◌, ◌≤◌, ◌<◌, T}
use Rattle.rules.specs.Walk.{count}
use Rattle.theory.specs.Run.{Ran, job, Before, Waiting}
use Rattle.theory.specs.Load.{Load}

-- `low t` is at most the service of every t ticks
abbrev pub LowerBound : (ℕ → Bool) → (ℕ → ℕ) → Type 0
LowerBound sv low = (a t : ℕ) → low t ≤ count (λ k. sv (a + k)) t

-- what i and the higher competitors with its server bring: within the cost, a period apart by arrival, released at most the jitter after arrival
pub record Brings (L : Load) (i : ℕ) (rel work : ℕ → ℕ → ℕ) : Type 0 where
  pub within : (j a : ℕ) → j ≤ i → T (L.rival i j) → work j a ≤ L.cost j
  pub apart : (j a b : ℕ) → j ≤ i → T (L.rival i j) → 0 < work j a → 0 < work j b → a < b → a + L.period j ≤ b
  pub late : (j a : ℕ) → j ≤ i → T (L.rival i j) → 0 < work j a → (a ≤ rel j a) × (rel j a ≤ a + L.jitter j)

-- N ticks of a server: what runs is waiting; and in a service tick in which a job of `mine` waits, one of mine runs that goes before it or is it
pub record Queue (N : ℕ) (mine : ℕ → Bool) (sv : ℕ → Bool) (rel work : ℕ → ℕ → ℕ) (ran : ℕ → Ran) : Type 0 where
  pub only_waiting : (n j a : ℕ) → n < N → ran n ≡ job j a → Waiting rel work ran n j a
  pub in_order : (n j a : ℕ) → n < N → T (sv n) → T (mine j) → Waiting rel work ran n j a
      → (x : ℕ) × (y : ℕ) × (ran n ≡ job x y) × T (mine x) × Before x y j a
