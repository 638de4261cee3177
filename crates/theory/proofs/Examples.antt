-- The harmonic rule on small tables and switch ticks in small plans, by computing: what a wrong formula in specs/Harmonic.antt or specs/Plan.antt falls by. Assumes nothing.
use mathlib.Core.Path.{◌≡◌, refl}
use mathlib.Core.Bool.{true, false}
use mathlib.Core.List.{List, [], ◌∷◌}
use Prim.Native.Nat.{ℕ}
use lib.ListN.{length}
use Rattle.rules.specs.Walk.{only, first, sum, count, largest, walk, listed, round_up}
use Rattle.rules.specs.Table.{wants}
use Rattle.rules.specs.Terms.{granules, usual, wanted}
use Rattle.rules.specs.declared.Rule.TheVariants.{Switching}
use Rattle.theory.specs.Plan.{owner, owner_before, switch_tick, unswitched, service, owned}
use Rattle.theory.specs.Harmonic.{pairs, frame, all_wanted, sooner, rank, give, turn, planned, harmonic_plan}

-- P1: cycles 4, 8, 8, shares 1/4, 3/8, 1/100
abbrev p1 : List ℕ
p1 = 4 ∷ 1 ∷ 4 ∷ 8 ∷ 3 ∷ 8 ∷ 8 ∷ 1 ∷ 100 ∷ []

pub p1_plan : harmonic_plan (wanted usual p1) p1 ≡ 1 ∷ 2 ∷ 2 ∷ 2 ∷ 1 ∷ 3 ∷ 0 ∷ 0 ∷ []
unfolding only first sum count largest walk round_up wants owned frame sooner rank give turn planned listed
p1_plan = refl

-- in granules of 2 each of the three wants an even number, and no tick is left
pub p1_plan_2 : harmonic_plan (wanted (granules 2) p1) p1 ≡ 1 ∷ 1 ∷ 2 ∷ 2 ∷ 1 ∷ 1 ∷ 2 ∷ 2 ∷ []
unfolding only first sum count largest walk round_up wants owned frame sooner rank give turn planned listed
p1_plan_2 = refl

pub p1-pairs : pairs p1 1 0 ≡ true
unfolding pairs
p1-pairs = refl

-- P3: third share 1/2
abbrev p3 : List ℕ
p3 = 4 ∷ 1 ∷ 4 ∷ 8 ∷ 3 ∷ 8 ∷ 8 ∷ 1 ∷ 2 ∷ []

pub p3-wanted : all_wanted (wanted usual p3) p3 8 ≡ 9
unfolding sum round_up wants all_wanted
p3-wanted = refl

-- P4: cycles 4 and 6
pub p4-pairs : pairs (4 ∷ 1 ∷ 4 ∷ 6 ∷ 1 ∷ 6 ∷ []) 0 1 ≡ false
unfolding pairs
p4-pairs = refl

-- the smallest cycle stands last
abbrev rising : List ℕ
rising = 4 ∷ 1 ∷ 4 ∷ 4 ∷ 1 ∷ 4 ∷ 2 ∷ 1 ∷ 2 ∷ []

pub rising_plan : harmonic_plan (wanted usual rising) rising ≡ 3 ∷ 1 ∷ 3 ∷ 2 ∷ []
unfolding only first sum count largest walk round_up wants owned frame sooner rank give turn planned listed
rising_plan = refl

-- ---- the switch tick: whom each tick of a frame serves

abbrev served : List ℕ → List ℕ
served plan = listed (service Switching plan) (length plan)

-- every tick a switch tick
pub all_switch : served (1 ∷ 2 ∷ 1 ∷ 2 ∷ []) ≡ 0 ∷ 0 ∷ 0 ∷ 0 ∷ []
unfolding listed service owner owner_before switch_tick unswitched
all_switch = refl

-- the first run goes on where the last one ended
pub joined-ends : served (1 ∷ 1 ∷ 2 ∷ 2 ∷ 1 ∷ 1 ∷ []) ≡ 1 ∷ 1 ∷ 0 ∷ 2 ∷ 0 ∷ 1 ∷ []
unfolding listed service owner owner_before switch_tick unswitched
joined-ends = refl

-- idle between two runs of one owner, and before the first
pub idle_between : served (1 ∷ 1 ∷ 0 ∷ 1 ∷ 1 ∷ 1 ∷ 0 ∷ []) ≡ 0 ∷ 1 ∷ 0 ∷ 0 ∷ 1 ∷ 1 ∷ 0 ∷ []
unfolding listed service owner owner_before switch_tick unswitched
idle_between = refl

-- "A plan of one run has no switch tick."
pub one_tick : served (3 ∷ []) ≡ 3 ∷ []
unfolding listed service owner owner_before switch_tick unswitched
one_tick = refl
