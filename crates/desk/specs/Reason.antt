-- Why there is no place: document 02, ask 7, "With its 18 the desk gives ..", over the jobs js left, a time t and a deadline d. Assumes nothing.
use Rattle.std.specs.Prelude.{ℕ, suc, ◌+◌, ◌-◌, Bool, List, leb, ltb, length, drop, get_or}
use Rattle.rules.specs.Walk.{pick, first, largest}
use Rattle.rules.specs.declared.Binding.{Binding}
use Rattle.rules.specs.declared.Binding.TheVariants.{Own, Listed}
use Rattle.rules.specs.declared.Explanation.{Explanation}
use Rattle.rules.specs.declared.Explanation.TheVariants.{Nowhere, Roomiest}
use Rattle.desk.specs.declared.Job.{Job}
use Rattle.desk.specs.Table.{deadline, ends, none}
use Rattle.desk.specs.Places.{early, start_at, room, shift}

-- the room R of a place i from 0 to l − 1; "Place l has room d − s"
unfoldable pub room_at : ℕ → ℕ → List Job → ℕ → ℕ
room_at t d js i = pick (ltb i (early d js)) (room (start_at t js i) d (get_or js i none)) (d - start_at t js i)

-- how many places there are: "a place with room below 0 is none", which only place l can be
unfoldable pub places_of : ℕ → ℕ → List Job → ℕ
places_of t d js = pick (leb (start_at t js (early d js)) d) (suc (early d js)) (early d js)

-- "the largest room"
unfoldable pub largest_room : ℕ → ℕ → List Job → ℕ
largest_room t d js = largest (room_at t d js) (places_of t d js)

-- place i has it
unfoldable pub as_roomy : ℕ → ℕ → List Job → ℕ → Bool
as_roomy t d js i = leb (largest_room t d js) (room_at t d js i)

-- "the lowest place with the largest room"
unfoldable pub roomiest : ℕ → ℕ → List Job → ℕ
roomiest t d js = first (as_roomy t d js) (places_of t d js)

-- where a job of one tick more than the room of place i ends there
abbrev pub longer_end : ℕ → ℕ → List Job → ℕ → ℕ
longer_end t d js i = start_at t js i + (room_at t d js i + 1)

-- job k of js ends after its deadline
unfoldable pub late : List Job → ℕ → Bool
late js k = ltb (deadline (get_or js k none)) (ends (get_or js k none))

-- "whether the request's own deadline or a listed job's binds it; if a listed job, the first one whose deadline a longer move would break. On equals
-- the request's deadline is named": of a job of one tick more there, with the later jobs moved as it forces them
unfoldable pub binding_at : ℕ → ℕ → List Job → ℕ → Binding
binding_at t d js i =
    pick (ltb d (longer_end t d js i)) Own
    (Listed (i + first (late (shift (longer_end t d js i) (drop i js))) (length js - i)))

-- "the lowest place with the largest room, that room, and" what "binds it"; "If there is none, as when t is past d, say so."
unfoldable pub explanation_of : ℕ → ℕ → List Job → Explanation
explanation_of t d js =
    pick (leb 1 (places_of t d js)) (Roomiest (roomiest t d js) (largest_room t d js) (binding_at t d js (roomiest t d js))) Nowhere
