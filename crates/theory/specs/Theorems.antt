-- What is proved of the definitions: each statement is a type, and its proof is a term of it in proofs/. Assumes nothing.
use Rattle.std.specs.Prelude.{◌≡◌, ◌⊎◌, ◌↔◌, true, false, List, ℕ, suc, ◌+◌, ◌-◌, ◌*◌, ◌≤◌, ◌<◌, length, get_or, Result}
use Rattle.rules.specs.Limits.{longest}
use Rattle.rules.specs.Walk.{Every, round_up}
use Rattle.rules.specs.Table.{cycle, partitions, wants, WantsIs, good_share, good_part, deadline, tasks, good_task}
use Rattle.rules.specs.Terms.{good_granule}
use Rattle.rules.specs.declared.Rule.{Rule}
use Rattle.rules.specs.declared.Rule.TheVariants.{Own, Switching}
use Rattle.rules.specs.declared.Refusal.{Refusal}
use Rattle.theory.specs.Plan.{owner, switch_tick, service, held, HeldIs, least, LeastIs, worst_start, Serves}
use Rattle.theory.specs.Harmonic.{Harmonic, pairs, frame, all_wanted, rank, taken, harmonic_plan}
use Rattle.theory.specs.Run.{Ran, done, Releases, LegalTo, Legal}
use Rattle.theory.specs.Load.{Load, demand, last_point, point, first_point, first_tick, shortage, tightest}
use Rattle.theory.specs.Task.{TaskPasses, task_point, task_tick}
use Rattle.theory.specs.Generality.{LoadPoints, LoadTheorem}

-- ==== ticks

-- document 02, ask 5: "the smallest multiple of g that is at least num·m/den": it is a multiple, it is enough, and no smaller multiple is
abbrev pub WantsSmallest : Type 0
WantsSmallest =
    (g m n d : ℕ) → 0 < g → 0 < d
    → ((c : ℕ) × (wants g m n d ≡ c * g)) × (n * m ≤ wants g m n d * d) × ((c : ℕ) → n * m ≤ c * g * d → wants g m n d ≤ c * g)

-- "So q is at least 1", and passes what the cycle has by less than a granule: with g = 1 not at all
abbrev pub WantsRange : Type 0
WantsRange =
    (limit g m n d : ℕ) → good_granule g ≡ true → good_share limit m n d ≡ true → (1 ≤ wants g m n d) × (wants g m n d < m + g)

-- "g = 1 gives today's answers": document 01's "q = num·m/den, rounded up to a whole number"
abbrev pub WantsWhole : Type 0
WantsWhole = (m n d : ℕ) → wants 1 m n d ≡ round_up (n * m) d

-- no granule makes a share smaller
abbrev pub WantsNoLess : Type 0
WantsNoLess = (g m n d : ℕ) → 0 < g → wants 1 m n d ≤ wants g m n d

-- "any two outcomes it permits are equal", of the three calls that answer with a number
abbrev pub WantsOne : Type 0
WantsOne = (g m n d r r' : ℕ) → WantsIs g m n d r → WantsIs g m n d r' → r ≡ r'

abbrev pub HeldOne : Type 0
HeldOne = (e : ℕ) (plan : List ℕ) (p s n : ℕ) (r r' : Result ℕ Refusal) → HeldIs e plan p s n r → HeldIs e plan p s n r' → r ≡ r'

abbrev pub LeastOne : Type 0
LeastOne = (e : ℕ) (plan : List ℕ) (p t : ℕ) (r r' : Result ℕ Refusal) → LeastIs e plan p t r → LeastIs e plan p t r' → r ≡ r'

-- ==== the switch tick

-- document 02, ask 6: "the first tick of a run is spent on switching when the tick before belongs to another partition or to idle": a partition's tick behind one of another owner,
-- and the frame's first tick behind its last, "the frame's end joined to its start"
abbrev pub SwitchExactly : Type 0
SwitchExactly =
    (plan : List ℕ) → 0 < length plan
    → ((t : ℕ) → (switch_tick plan (suc t) ≡ true) ↔ ((0 < owner plan (suc t)) × ¬ (owner plan t ≡ owner plan (suc t))))
    × ((switch_tick plan 0 ≡ true) ↔ ((0 < owner plan 0) × ¬ (owner plan (length plan - 1) ≡ owner plan 0)))

-- "A switch tick is owned but doesn't count as service", and every other tick serves its owner
abbrev pub SwitchServes : Type 0
SwitchServes =
    (plan : List ℕ) (t : ℕ)
    → (switch_tick plan t ≡ true → service Switching plan t ≡ 0) × (switch_tick plan t ≡ false → service Switching plan t ≡ owner plan t)

-- "A plan of one run has no switch tick."
abbrev pub OneRun : Type 0
OneRun = (plan : List ℕ) (p : ℕ) → ((t : ℕ) → owner plan t ≡ p) → (t : ℕ) → switch_tick plan t ≡ false

-- by no rule more is served than by edition 1's, tick by tick
abbrev pub ServiceWithin : Type 0
ServiceWithin = (rule : Rule) (plan : List ℕ) (p t : ℕ) → 0 < p → service rule plan t ≡ p → service Own plan t ≡ p

-- nor held, nor sure
abbrev pub HeldWithin : Type 0
HeldWithin = (rule : Rule) (plan : List ℕ) (p n s : ℕ) → 0 < p → held rule plan p n s ≤ held Own plan p n s

abbrev pub LeastWithin : Type 0
LeastWithin = (rule : Rule) (plan : List ℕ) (p t : ℕ) → 0 < p → least rule plan p t ≤ least Own plan p t

-- so what serves in edition 2 serves in edition 1, and a task that passes there passes here
abbrev pub ServesWithin : Type 0
ServesWithin = (rule : Rule) (q : ℕ → ℕ) (plan ps : List ℕ) → Serves rule q plan ps → Serves Own q plan ps

abbrev pub PassesWithin : Type 0
PassesWithin =
    (rule : Rule) (plan ts : List ℕ) (parts : ℕ) → Every (good_task parts ts) (tasks ts) → (i : ℕ) → i < tasks ts
    → TaskPasses rule plan ts i → TaskPasses Own plan ts i

-- ==== least service

-- "in any t consecutive ticks of the repeated plan": no start in ℕ holds less
abbrev pub LeastIsLeast : Type 0
LeastIsLeast = (rule : Rule) (plan : List ℕ) (p t s : ℕ) → 0 < length plan → least rule plan p t ≤ held rule plan p t s

-- and a start below F holds just that
abbrev pub LeastAttained : Type 0
LeastAttained = (rule : Rule) (plan : List ℕ) (p t : ℕ) → 0 < length plan → (s : ℕ) × (s < length plan) × (held rule plan p t s ≡ least rule plan p t)

-- "least(0) is 0."
abbrev pub LeastZero : Type 0
LeastZero = (rule : Rule) (plan : List ℕ) (p : ℕ) → least rule plan p 0 ≡ 0

-- "It lies between 0 and t."
abbrev pub LeastBounds : Type 0
LeastBounds = (rule : Rule) (plan : List ℕ) (p t : ℕ) → least rule plan p t ≤ t

abbrev pub LeastGrows : Type 0
LeastGrows = (rule : Rule) (plan : List ℕ) (p t : ℕ) → least rule plan p t ≤ least rule plan p (suc t)

-- "from any start and across the frame's end too": the starts in the frame decide
abbrev pub ServesInFrame : Type 0
ServesInFrame =
    (rule : Rule) (plan : List ℕ) (p q m : ℕ) → 0 < length plan
    → ((s : ℕ) → s < length plan → q ≤ held rule plan p m s) → (s : ℕ) → q ≤ held rule plan p m s

-- ==== the verdict

-- "It is enough to try the scheduling points .. The team proves that both readings agree."
abbrev pub PointsEnough : Type 0
PointsEnough =
    (rule : Rule) (plan ts : List ℕ) (parts : ℕ) → Every (good_task parts ts) (tasks ts) → (i : ℕ) → i < tasks ts
    → TaskPasses rule plan ts i ↔ (task_point rule plan ts i ≤ deadline ts i)

-- "A pass reports the smallest scheduling point that holds."
abbrev pub PointSmallest : Type 0
PointSmallest =
    (L : Load) (low : ℕ → ℕ) (i : ℕ) → first_point L low i ≤ last_point L i
    → (point L i (first_point L low i) ≡ true) × (demand L i (first_point L low i) ≤ low (first_point L low i))
    × ((t : ℕ) → point L i t ≡ true → demand L i t ≤ low t → first_point L low i ≤ t)

-- document 02, ask 4: "every tick t from 1 to D": trying them is what passing is, whatever the table
abbrev pub TicksExactly : Type 0
TicksExactly = (rule : Rule) (plan ts : List ℕ) (i : ℕ) → TaskPasses rule plan ts i ↔ (task_tick rule plan ts i ≤ deadline ts i)

-- "It reports the smallest tick that holds"
abbrev pub TickSmallest : Type 0
TickSmallest =
    (L : Load) (low : ℕ → ℕ) (i : ℕ) → first_tick L low i ≤ last_point L i
    → (1 ≤ first_tick L low i) × (demand L i (first_tick L low i) ≤ low (first_tick L low i))
    × ((t : ℕ) → 1 ≤ t → demand L i t ≤ low t → first_tick L low i ≤ t)

-- "which may be below the scheduling point", and is never above it
abbrev pub TickAtMostPoint : Type 0
TickAtMostPoint = (L : Load) (low : ℕ → ℕ) (i : ℕ) → first_tick L low i ≤ first_point L low i

-- ==== the supplier's page

-- document 02, ask 7: "a worst start (the lowest)": a start in the frame from which t ticks hold the least; from any lower one they hold more
abbrev pub WorstStartLowest : Type 0
WorstStartLowest =
    (rule : Rule) (plan : List ℕ) (p t : ℕ) → 0 < length plan
    → (worst_start rule plan p t < length plan) × (held rule plan p t (worst_start rule plan p t) ≡ least rule plan p t)
    × ((s : ℕ) → s < worst_start rule plan p t → least rule plan p t < held rule plan p t s)

-- "the point with the smallest shortage, lowest point on equals"
pub record TightestPoint (L : Load) (low : ℕ → ℕ) (i t : ℕ) : Type 0 where
  pub a_point : point L i t ≡ true
  pub smallest : (u : ℕ) → point L i u ≡ true → shortage L low i t ≤ shortage L low i u
  pub lowest : (u : ℕ) → u < t → point L i u ≡ true → shortage L low i t < shortage L low i u

abbrev pub TightestSo : Type 0
TightestSo = (L : Load) (low : ℕ → ℕ) (i : ℕ) → 1 ≤ last_point L i → TightestPoint L low i (tightest L low i)

-- ==== demand 3, first half: the run theorem

-- If a task passes, then in every legal run, of any number of ticks and from any tick of the repeated plan on, each of its jobs whose deadline has come
-- by then has run as long as it needs by its deadline: "Done within D means finished after at most D ticks from release." Nothing is asked of other tasks.
abbrev pub RunTheorem : Type 0
RunTheorem =
    (rule : Rule) (plan ts : List ℕ) (parts : ℕ) → 0 < length plan → Every (good_task parts ts) (tasks ts)
    → (i : ℕ) → i < tasks ts → TaskPasses rule plan ts i
    → (N start : ℕ) (work : ℕ → ℕ → ℕ) (ran : ℕ → Ran) → LegalTo N rule plan start ts work ran
    → (r : ℕ) → r + deadline ts i ≤ N → done ran i r (r + deadline ts i) ≡ work i r

-- the same of runs without end
abbrev pub EndlessTheorem : Type 0
EndlessTheorem =
    (rule : Rule) (plan ts : List ℕ) (parts : ℕ) → 0 < length plan → Every (good_task parts ts) (tasks ts)
    → (i : ℕ) → i < tasks ts → TaskPasses rule plan ts i
    → (start : ℕ) (work : ℕ → ℕ → ℕ) (ran : ℕ → Ran) → Legal rule plan start ts work ran
    → (r : ℕ) → done ran i r (r + deadline ts i) ≡ work i r

-- the run theorem is about something: whatever is released there is a legal run
abbrev pub LegalExists : Type 0
LegalExists =
    (rule : Rule) (plan : List ℕ) (start : ℕ) (ts : List ℕ) (work : ℕ → ℕ → ℕ) → Releases ts work
    → (ran : ℕ → Ran) × Legal rule plan start ts work ran

-- and only one
abbrev pub LegalOne : Type 0
LegalOne =
    (N : ℕ) (rule : Rule) (plan : List ℕ) (start : ℕ) (ts : List ℕ) (work : ℕ → ℕ → ℕ) (ran ran' : ℕ → Ran)
    → LegalTo N rule plan start ts work ran → LegalTo N rule plan start ts work ran' → (n : ℕ) → n < N → ran n ≡ ran' n

-- ==== demand 3, second half: the harmonic rule, whatever each partition wants

-- of two cycles that pair, one divides the other
abbrev pub PairsDivide : Type 0
PairsDivide =
    (ps : List ℕ) (j k : ℕ)
    → (pairs ps j k ≡ true) ↔ (((c : ℕ) × (cycle ps k ≡ c * cycle ps j)) ⊎ ((c : ℕ) × (cycle ps j ≡ c * cycle ps k)))

-- "Take partitions": each place is taken once
abbrev pub TakenOnce : Type 0
TakenOnce = (ps : List ℕ) (k : ℕ) → k < partitions ps → (rank ps k < partitions ps) × (taken ps (rank ps k) ≡ k)

-- "by rising cycle, equal cycles by place"
abbrev pub TakenRises : Type 0
TakenRises =
    (ps : List ℕ) (r s : ℕ) → r < s → s < partitions ps
    → (cycle ps (taken ps r) < cycle ps (taken ps s)) ⊎ ((cycle ps (taken ps r) ≡ cycle ps (taken ps s)) × (taken ps r < taken ps s))

-- where the sum is not above H, the plan that the rule writes serves the table
abbrev pub HarmonicServes : Type 0
HarmonicServes =
    (q : ℕ → ℕ) (ps : List ℕ) → 0 < partitions ps → Every (good_part longest ps) (partitions ps) → Harmonic ps
    → all_wanted q ps (frame ps) ≤ frame ps → Serves Own q (harmonic_plan q ps) ps

-- "exactly when the sum of q·H/m is above H. Then no plan of any frame serves the table."
abbrev pub HarmonicRefused : Type 0
HarmonicRefused =
    (q : ℕ → ℕ) (ps : List ℕ) → 0 < partitions ps → Every (good_part longest ps) (partitions ps) → Harmonic ps
    → frame ps < all_wanted q ps (frame ps) → (rule : Rule) (plan : List ℕ) → ¬ Serves rule q plan ps

-- document 02, ask 5: "If q passes m the sum rule refuses it."
abbrev pub PastCycleRefused : Type 0
PastCycleRefused =
    (q : ℕ → ℕ) (ps : List ℕ) → 0 < partitions ps → Every (good_part longest ps) (partitions ps) → Harmonic ps
    → (k : ℕ) → k < partitions ps → cycle ps k < q k → frame ps < all_wanted q ps (frame ps)

-- and every stretch of the cycle falls short, in any plan
abbrev pub PastCycleShort : Type 0
PastCycleShort = (rule : Rule) (plan : List ℕ) (p q m s : ℕ) → m < q → held rule plan p m s < q

-- its frame is the largest cycle, no cycle is longer, and every owner is 0 or a partition of the table
abbrev pub HarmonicPlanGood : Type 0
HarmonicPlanGood =
    (q : ℕ → ℕ) (ps : List ℕ) → 0 < partitions ps → Every (good_part longest ps) (partitions ps)
    → (length (harmonic_plan q ps) ≡ frame ps) × (1 ≤ frame ps) × (frame ps ≤ longest)
    × ((k : ℕ) → k < partitions ps → cycle ps k ≤ frame ps)
    × ((t : ℕ) → get_or (harmonic_plan q ps) t 0 ≤ partitions ps)

-- ==== all of them: proofs/Proved.antt has one

-- (load_points and load_theorem are specs/Generality.antt's)
pub record Proved : Type 0 where
  pub wants_smallest : WantsSmallest
  pub wants_range : WantsRange
  pub wants_whole : WantsWhole
  pub wants_no_less : WantsNoLess
  pub wants_one : WantsOne
  pub held_one : HeldOne
  pub least_one : LeastOne
  pub switch_exactly : SwitchExactly
  pub switch_serves : SwitchServes
  pub one_run : OneRun
  pub service_within : ServiceWithin
  pub held_within : HeldWithin
  pub least_within : LeastWithin
  pub serves_within : ServesWithin
  pub passes_within : PassesWithin
  pub least_is_least : LeastIsLeast
  pub least_attained : LeastAttained
  pub least_zero : LeastZero
  pub least_bounds : LeastBounds
  pub least_grows : LeastGrows
  pub serves_in_frame : ServesInFrame
  pub points_enough : PointsEnough
  pub load_points : LoadPoints
  pub point_smallest : PointSmallest
  pub ticks_exactly : TicksExactly
  pub tick_smallest : TickSmallest
  pub tick_at_most_point : TickAtMostPoint
  pub worst_start_lowest : WorstStartLowest
  pub tightest_so : TightestSo
  pub run_theorem : RunTheorem
  pub endless_theorem : EndlessTheorem
  pub load_theorem : LoadTheorem
  pub legal_exists : LegalExists
  pub legal_one : LegalOne
  pub pairs_divide : PairsDivide
  pub taken_once : TakenOnce
  pub taken_rises : TakenRises
  pub harmonic_serves : HarmonicServes
  pub harmonic_refused : HarmonicRefused
  pub past_cycle_refused : PastCycleRefused
  pub past_cycle_short : PastCycleShort
  pub harmonic_plan_good : HarmonicPlanGood
