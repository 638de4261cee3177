-- By value, so that a wrong rule falls by its numbers. Place l: D6, a tick longer, an empty table, behind the last job and a tick longer; and with time to
-- spare, where the start is still the earliest. What 18 tells: the request's deadline, on equals too, and a listed job's, one behind the next; the lowest
-- of equal rooms; place l; a room of 0; and none at all. Assumes nothing.
use mathlib.Core.Path.{◌≡◌, refl}
use mathlib.Core.List.{List, [], ◌∷◌}
use Rattle.rules.specs.Walk.{first, largest}
use Rattle.rules.specs.declared.Binding.TheVariants.{Own, Listed}
use Rattle.rules.specs.declared.Explanation.TheVariants as why
use Rattle.desk.specs.declared.Job.{Job}
use Rattle.desk.specs.Table.{job}
use Rattle.desk.specs.Reason.{room_at, places_of, largest_room, as_roomy, roomiest, late, binding_at, explanation_of}
use Rattle.desk.specs.Request.{find, At, Nowhere}

gap : find 25 4 29 (job 30 2 40 8 ∷ []) ≡ At 0 25
gap = refl

gap_longer : find 25 5 29 (job 30 2 40 8 ∷ []) ≡ Nowhere
gap_longer = refl

empty : find 7 5 12 [] ≡ At 0 7
empty = refl

behind : find 30 9 41 (job 30 2 40 8 ∷ []) ≡ At 1 32
behind = refl

behind_longer : find 30 10 41 (job 30 2 40 8 ∷ []) ≡ Nowhere
behind_longer = refl

empty-early : find 7 5 20 [] ≡ At 0 7
empty-early = refl

behind-early : find 30 9 45 (job 30 2 40 8 ∷ []) ≡ At 1 32
behind-early = refl

abbrev d1 : List Job
d1 = job 10 3 20 6 ∷ job 15 5 24 4 ∷ job 30 2 40 8 ∷ []

own_on_equals : explanation_of 8 16 d1 ≡ why.Roomiest 0 8 Own
unfolding first largest room_at places_of largest_room as_roomy roomiest late binding_at explanation_of
own_on_equals = refl

one-behind : explanation_of 8 17 d1 ≡ why.Roomiest 0 8 (Listed 1)
unfolding first largest room_at places_of largest_room as_roomy roomiest late binding_at explanation_of
one-behind = refl

the_next : explanation_of 8 40 d1 ≡ why.Roomiest 2 18 (Listed 2)
unfolding first largest room_at places_of largest_room as_roomy roomiest late binding_at explanation_of
the_next = refl

of_equals : explanation_of 8 14 (job 10 2 12 0 ∷ job 14 1 15 0 ∷ []) ≡ why.Roomiest 0 2 (Listed 0)
unfolding first largest room_at places_of largest_room as_roomy roomiest late binding_at explanation_of
of_equals = refl

last_place : explanation_of 30 41 (job 30 2 40 8 ∷ []) ≡ why.Roomiest 1 9 Own
unfolding first largest room_at places_of largest_room as_roomy roomiest late binding_at explanation_of
last_place = refl

no_ticks : explanation_of 7 7 [] ≡ why.Roomiest 0 0 Own
unfolding first largest room_at places_of largest_room as_roomy roomiest late binding_at explanation_of
no_ticks = refl

none_at_all : explanation_of 8 7 d1 ≡ why.Nowhere
unfolding first largest room_at places_of largest_room as_roomy roomiest late binding_at explanation_of
none_at_all = refl
