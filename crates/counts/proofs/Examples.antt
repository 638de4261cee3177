-- Small lists by value, so that a wrong rule falls by its numbers. Assumes nothing.
use Prim.Native.Nat.{ℕ}
use mathlib.Core.Path.{◌≡◌, refl}
use mathlib.Core.List.{List, [], ◌∷◌, ◌++◌}
use lib.ListN.{set}
use Rattle.rules.specs.Walk.{only, first, fails, sum, count, listed}
use Rattle.rules.specs.Table.{good_share}
use Rattle.rules.specs.declared.Refusal.TheVariants.{Output, Asked, Counts, Beyond}
use Rattle.std.specs.Prelude.{Ok, Err}
use Rattle.rules.specs.Terms.{good_edition, good_granule}
use Rattle.tables.specs.Tables.{counted_in, within_limits, in_edition, tables_of}
use Rattle.theory.specs.Plan.{owner, service, owned}
use Rattle.counts.specs.Counts.{count_at, running_counts, agrees_at, plan_judged, list_judged, counts_judged, good_name, good_stretch, fill_of, held_of, names_one, within_frame, many_of, change_of}

-- two partitions, in a frame of four ticks
abbrev parts : List ℕ
parts = 4 ∷ 1 ∷ 2 ∷ 4 ∷ 1 ∷ 4 ∷ []

abbrev plan : List ℕ
plan = 1 ∷ 2 ∷ 0 ∷ 1 ∷ []

abbrev counts : List ℕ
counts = 0 ∷ 1 ∷ 1 ∷ 1 ∷ 2 ∷ 0 ∷ 0 ∷ 1 ∷ 1 ∷ 1 ∷ []

-- its last number off by one
abbrev spoilt : List ℕ
spoilt = 0 ∷ 1 ∷ 1 ∷ 1 ∷ 2 ∷ 0 ∷ 0 ∷ 1 ∷ 1 ∷ 2 ∷ []

is_list : running_counts plan parts ≡ counts
unfolding only sum count listed service owner owned count_at
is_list = refl

fits : fill_of plan parts 10 ≡ Ok 10
unfolding first fails good_share counted_in within_limits good_granule good_edition in_edition tables_of plan_judged fill_of
fits = refl

short : fill_of plan parts 9 ≡ Err Output
unfolding first fails good_share counted_in within_limits good_granule good_edition in_edition tables_of plan_judged fill_of
short = refl

-- ticks 3, 0 and 1
across : held_of plan parts counts 1 3 3 ≡ Ok 2
unfolding only first fails sum count service owner owned good_share counted_in within_limits good_granule good_edition in_edition tables_of count_at agrees_at plan_judged list_judged counts_judged good_name good_stretch held_of
across = refl

whole : held_of plan parts (counts ++ (7 ∷ [])) 2 3 4 ≡ Ok 1
unfolding only first fails sum count service owner owned good_share counted_in within_limits good_granule good_edition in_edition tables_of count_at agrees_at plan_judged list_judged counts_judged good_name good_stretch held_of
whole = refl

-- 20 before 26, and 8 with place 0 before both
disagrees : held_of plan parts spoilt 1 4 5 ≡ Err Counts
unfolding only first fails sum count service owner owned good_share counted_in within_limits good_granule good_edition in_edition tables_of count_at agrees_at plan_judged list_judged counts_judged good_name good_stretch held_of
disagrees = refl

outside : held_of plan parts counts 1 4 0 ≡ Err (Beyond 0)
unfolding only first fails sum count service owner owned good_share counted_in within_limits good_granule good_edition in_edition tables_of count_at agrees_at plan_judged list_judged counts_judged good_name good_stretch held_of
outside = refl

unnamed : held_of plan parts spoilt 0 4 5 ≡ Err (Asked 0)
unfolding only first fails sum count service owner owned good_share counted_in within_limits good_granule good_edition in_edition tables_of count_at agrees_at plan_judged list_judged counts_judged good_name good_stretch held_of
unnamed = refl

-- of many the lowest question, by its place from 1
lowest-one : many_of plan parts counts (1 ∷ 0 ∷ 4 ∷ 2 ∷ 0 ∷ 5 ∷ 1 ∷ 4 ∷ 0 ∷ []) 3 ≡ Err (Beyond 2)
unfolding only first fails sum count service owner owned good_share counted_in within_limits good_granule good_edition in_edition tables_of count_at agrees_at plan_judged list_judged counts_judged good_name good_stretch names_one within_frame many_of
lowest-one = refl

-- a new owner 0 is good; the changed plan's list
idle : change_of plan parts counts 3 0 ≡ (Ok tt)
unfolding only first fails sum count service owner owned good_share counted_in within_limits good_granule good_edition in_edition tables_of count_at agrees_at plan_judged list_judged counts_judged change_of
idle = refl

changed : running_counts (set plan 2 2) parts ≡ 0 ∷ 1 ∷ 1 ∷ 1 ∷ 2 ∷ 0 ∷ 0 ∷ 1 ∷ 2 ∷ 2 ∷ []
unfolding only sum count listed service owner owned count_at
changed = refl
