-- Competitors for one server: their demand, their scheduling points, and what passing is. Assumes nothing.
-- Tasks are an instance (specs/Task.antt), and the words quoted here are theirs.
use Rattle.std.specs.Prelude.{Bool, ◌&&◌, ◌||◌, ℕ, suc, ◌+◌, ◌-◌, ◌*◌, ◌%◌, ◌≤◌, eqb, leb}
use Rattle.rules.specs.Walk.{only, first, some, sum, first_least, round_up}

-- Competitor 0 has the highest priority; `rival i j`: j shares the server of i. A job is named by its arrival, and released at most the jitter later.
pub record Load : Type 0 where
  pub cost : ℕ → ℕ
  pub deadline : ℕ → ℕ
  pub period : ℕ → ℕ
  pub jitter : ℕ → ℕ
  pub rival : ℕ → ℕ → Bool

-- "C of j times t/T of j rounded up", for a rival j; what its jitter holds back comes together with the t ticks' own
unfoldable pub asked : Load → ℕ → ℕ → ℕ → ℕ
asked L i t j = only (L.rival i j) (L.cost j * round_up (t + L.jitter j) (L.period j))

-- "demand(t) is C of i plus, for each higher task j of the same partition, .."
unfoldable pub demand : Load → ℕ → ℕ → ℕ
demand L i t = L.cost i + sum (asked L i t) i

-- "D itself", less the competitor's own jitter
abbrev pub last_point : Load → ℕ → ℕ
last_point L i = L.deadline i - L.jitter i

-- "passes exactly when demand(t) ≤ least(t) for some t from 1 to D", where `low t` bounds the service of t ticks
abbrev pub Passes : Load → (ℕ → ℕ) → ℕ → Type 0
Passes L low i = (t : ℕ) × (1 ≤ t) × (t ≤ last_point L i) × (demand L i t ≤ low t)

-- t, with the jitter of the rival j, is a multiple of its period
unfoldable pub multiple : Load → ℕ → ℕ → ℕ → Bool
multiple L i t j = L.rival i j && eqb ((t + L.jitter j) % L.period j) 0

-- "the multiples, from one period up to D, of the higher tasks' periods, and D itself, each once"
unfoldable pub point : Load → ℕ → ℕ → Bool
point L i t = leb 1 t && leb t (last_point L i) && (eqb t (last_point L i) || some (multiple L i t) i)

-- t is tried, and "demand(t) ≤ least(t)" holds there
unfoldable pub holds : (ℕ → Bool) → Load → (ℕ → ℕ) → ℕ → ℕ → Bool
holds tried L low i t = tried t && leb (demand L i t) (low t)

-- the smallest t that is tried and holds, up to the last point: one past that where none does
unfoldable pub earliest : (ℕ → Bool) → Load → (ℕ → ℕ) → ℕ → ℕ
earliest tried L low i = first (holds tried L low i) (suc (last_point L i))

-- "the smallest scheduling point that holds"
abbrev pub first_point : Load → (ℕ → ℕ) → ℕ → ℕ
first_point L low i = earliest (point L i) L low i

-- document 02, ask 4: "every tick t from 1 to D, no scheduling points", "the smallest tick that holds"
abbrev pub first_tick : Load → (ℕ → ℕ) → ℕ → ℕ
first_tick L low i = earliest (leb 1) L low i

-- document 02, ask 7: how much of its demand a competitor can't be sure of in t ticks
unfoldable pub shortage : Load → (ℕ → ℕ) → ℕ → ℕ → ℕ
shortage L low i t = demand L i t - low t

-- "the point with the smallest shortage, lowest point on equals"
unfoldable pub tightest : Load → (ℕ → ℕ) → ℕ → ℕ
tightest L low i = first_least (point L i) (shortage L low i) (suc (last_point L i))
