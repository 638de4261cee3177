-- Words that only inner contracts use: no statement and no entry's contract cites them. Assumes nothing.
-- The roomiest place so far, and the job that binds it; laws tie them to what 18 tells.
use Rattle.std.specs.Prelude.{ℕ, Bool, true, [], ltb, eqb}
use Rattle.rules.specs.Walk.{pick}
use Rattle.rules.specs.declared.Binding.{Binding}
use Rattle.rules.specs.declared.Binding.TheVariants.{Own, Listed}
use Rattle.rules.specs.declared.Explanation.{Explanation}
use Rattle.rules.specs.declared.Explanation.TheVariants.{Roomiest}
use Rattle.desk.specs.declared.Job.{Job}
use Rattle.desk.specs.Table.{flex, x_of}
use Rattle.desk_records.specs.Sums.{sum_to}
use Rattle.desk_reading.specs.declared.best.Best.{Best}
use Rattle.desk_reading.specs.declared.best.Bound.{Bound}
use Rattle.desk_reading.specs.declared.best.Bound.TheVariants.{ByRequest, Seeking, ByJob}

abbrev pub no_best : Best
no_best = record { place = 0; room = 0; bound = ByRequest }

-- the next place, with so much room, is better: "the lowest place with the largest room"; place 0 is the first
abbrev pub outdone : Best → ℕ → ℕ → Bool
outdone b place room = pick (eqb place 0) true (ltb b.room room)

-- whether a listed job's deadline binds it, the first such job being sought from the place on
abbrev pub bound_at : ℕ → Bool → Bound
bound_at place listed = pick listed (Seeking place) ByRequest

-- the better of the place so far and the next one
abbrev pub best_with : Best → ℕ → ℕ → Bool → Best
best_with b place room listed =
    pick (outdone b place room)
    (record { place = place; room = room; bound = bound_at place listed })
    b

-- x is all that the job's own deadline leaves
abbrev pub tight : Job → Bool
tight j = eqb (flex j) (x_of j [])

-- "the first one whose deadline a longer move would break", sought at one more job: it is found, or further on
abbrev pub sought_on : Bound → Job → Bound
sought_on ByRequest j = ByRequest
sought_on (Seeking k) j = pick (tight j) (ByJob k) (Seeking (sum_to k 1))
sought_on (ByJob k) j = ByJob k

abbrev pub sought_at : Best → Job → Best
sought_at b j = record { place = b.place; room = b.room; bound = sought_on b.bound j }

-- "whether the request's own deadline or a listed job's binds it"
abbrev pub binding_of : Bound → Binding
binding_of ByRequest = Own
binding_of (Seeking k) = Listed k
binding_of (ByJob k) = Listed k

abbrev pub explained : Best → Explanation
explained b = Roomiest b.place b.room (binding_of b.bound)
