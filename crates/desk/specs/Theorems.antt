-- What is proved of the desk's rules, each statement below the documents' words. `Proved` has a field for each. Assumes nothing.
use Rattle.std.specs.Prelude.{ℕ, suc, ◌+◌, ◌-◌, ◌<◌, ◌≤◌, ◌≡◌, ◌↔◌, Bool, true, false, List, length, take, drop, get_or, Ok, Err}
use Rattle.rules.specs.Walk.{pick}
use Rattle.rules.specs.Limits.{places}
use Rattle.rules.specs.declared.Refusal.{Refusal}
use Rattle.rules.specs.declared.Refusal.TheVariants.{Rules, NoPlace}
use Rattle.rules.specs.declared.Binding.{Binding}
use Rattle.rules.specs.declared.Binding.TheVariants.{Own, Listed}
use Rattle.rules.specs.declared.Explanation.{Explanation}
use Rattle.rules.specs.declared.Explanation.TheVariants.{Nowhere, Roomiest}
use Rattle.desk.specs.declared.Job.{Job}
use Rattle.desk.specs.declared.Asked.{Asked}
use Rattle.desk.specs.declared.Done.TheVariants.{Opened, Taken}
use Rattle.desk.specs.Table.{job, start, budget, deadline, flex, ends, none, Outcome, outcome, flexes, desk_ok, open_of}
use Rattle.desk.specs.Places.{early, start_at, shift}
use Rattle.desk.specs.Reason.{room_at, places_of}
use Rattle.desk.specs.Request.{kept, busy, insert_at, numbers_ok, drops, dropping, request_of}
use Rattle.desk.specs.Call.{said}
use Rattle.desk.specs.Story.{Entry, entry, no_entry, standing, Story, live, ever, begin, next, many, Promise, Joined, Fixed, takens}

-- opening's refusal is 13, and "13, 14, 15 .. change nothing at the desk"
abbrev pub OpenLeaves : Type 0
OpenLeaves =
    (clock n : ℕ) (l : List Job) (r : Refusal) → (open_of clock n l).answer ≡ Err r
    → open_of clock n l ≡ outcome l n clock (Err Rules)

-- "13, 14, 15 .. change nothing at the desk. 16, 17, 18 set the clock to t and drop finished jobs .. nothing else changes."
abbrev pub RequestLeaves : Type 0
RequestLeaves =
    (clock n : ℕ) (l : List Job) (t c d : ℕ) (r : Refusal) → (request_of clock n l t c d).answer ≡ Err r
    → request_of clock n l t c d
    ≡ pick (drops r) (dropping t (kept t (take n l)) r) (outcome l n clock (Err r))

-- "A job taken in sets the clock too."
abbrev pub TakenSetsClock : Type 0
TakenSetsClock =
    (clock n : ℕ) (l : List Job) (t c d i s : ℕ) → (request_of clock n l t c d).answer ≡ Ok (Taken i s) → (request_of clock n l t c d).clock ≡ t

-- a call's answer is the refusal of that number
abbrev pub Refuses : Outcome → ℕ → Type 0
Refuses o n = (said o.answer).number ≡ n

-- 13 is for a "job table, clock or count" that "breaks the rules", and no call makes one such
abbrev pub sound : Outcome → Bool
sound o = desk_ok o.clock o.count o.jobs

abbrev pub OpenKeepsRules : Type 0
OpenKeepsRules = (clock n : ℕ) (l : List Job) → (open_of clock n l).answer ≡ Ok Opened → sound (open_of clock n l) ≡ true

abbrev pub RequestKeepsRules : Type 0
RequestKeepsRules =
    (clock n : ℕ) (l : List Job) (t c d : ℕ) → desk_ok clock n l ≡ true → sound (request_of clock n l t c d) ≡ true

-- a request on what a call left, where that call did not answer 13, does not answer 13
abbrev pub NotRulesAfter : Outcome → Type 0
NotRulesAfter o =
    (Refuses o 13 → ⊥) → (t c d : ℕ) → Refuses (request_of o.clock o.count o.jobs t c d) 13 → ⊥

abbrev pub NotRulesAfterOpen : Type 0
NotRulesAfterOpen = (clock n : ℕ) (l : List Job) → NotRulesAfter (open_of clock n l)

abbrev pub NotRulesAfterRequest : Type 0
NotRulesAfterRequest = (clock n : ℕ) (l : List Job) (t c d : ℕ) → NotRulesAfter (request_of clock n l t c d)

-- after every call that does not refuse the table, each x is the rule's own, worked out from nothing
abbrev pub Afresh : Outcome → Type 0
Afresh o = (Refuses o 13 → ⊥) → flexes (take o.count o.jobs) ≡ take o.count o.jobs

abbrev pub OpenAfresh : Type 0
OpenAfresh = (clock n : ℕ) (l : List Job) → Afresh (open_of clock n l)

abbrev pub RequestAfresh : Type 0
RequestAfresh = (clock n : ℕ) (l : List Job) (t c d : ℕ) → Afresh (request_of clock n l t c d)

-- with a job put in at place i, so that each later one stands a place further on, none of them starts later by more than its x
abbrev pub MovesWithin : List Job → ℕ → List Job → Type 0
MovesWithin before i after =
    (k : ℕ) → i ≤ k → k < length before → start (get_or after (suc k) none) ≤ start (get_or before k none) + flex (get_or before k none)

-- document 02, ask 8: "a place with enough room never leads to a move beyond a job's flexibility, from any table that passes 13": whichever place that is
abbrev pub RoomNeverTooFar : Type 0
RoomNeverTooFar =
    (clock n : ℕ) (l : List Job) (t c d i : ℕ) → desk_ok clock n l ≡ true → busy t (kept t (take n l)) ≡ false
    → i < places_of t d (kept t (take n l)) → c ≤ room_at t d (kept t (take n l)) i
    → MovesWithin (kept t (take n l)) i (insert_at i (job (start_at t (kept t (take n l)) i) c d 0) (kept t (take n l)))

-- and the one that the search takes, from the jobs left to those that the call leaves
abbrev pub NeverTooFar : Type 0
NeverTooFar =
    (clock n : ℕ) (l : List Job) (t c d i s : ℕ) → (request_of clock n l t c d).answer ≡ Ok (Taken i s)
    → MovesWithin (kept t (take n l)) i (request_of clock n l t c d).jobs

-- "some place in the order, started at t or later, with earlier jobs unmoved and later ones only delayed, keeps every deadline": the jobs js with the request's
-- own among them, whatever new starts the later ones have, so that all keep the desk's promise (document 01): the request's own deadline is kept, and no two overlap
pub record Fits (t c d : ℕ) (js : List Job) : Type 0 where
  pub place : ℕ
  pub start : ℕ
  pub arranged : List Entry
  pub joins : Joined (standing js) arranged place (entry t c d start)
  pub keeps : Promise arranged

-- "no lower number refuses": none of 13 to 17
abbrev pub NoLower : Outcome → Type 0
NoLower o = (m : ℕ) → 13 ≤ m → m < 18 → Refuses o m → ⊥

-- what 13 to 17 ask for, in their order: a table, clock and count that keep the rules, numbers within their limits, a time not before the clock, no job running,
-- and fewer than 64 jobs left
pub record Ready (clock n : ℕ) (l : List Job) (t c d : ℕ) : Type 0 where
  pub rules : desk_ok clock n l ≡ true
  pub numbers : numbers_ok t c d ≡ true
  pub not_past : clock ≤ t
  pub not_busy : busy t (kept t (take n l)) ≡ false
  pub not_full : length (kept t (take n l)) < places

-- they refuse exactly where one of these fails
abbrev pub LowerExactly : Type 0
LowerExactly =
    (clock n : ℕ) (l : List Job) (t c d : ℕ) → NoLower (request_of clock n l t c d) ↔ Ready clock n l t c d

-- "A request that no lower number refuses is then taken exactly when some place .. keeps every deadline."
abbrev pub TakenExactly : Type 0
TakenExactly =
    (clock n : ℕ) (l : List Job) (t c d : ℕ) → NoLower (request_of clock n l t c d)
    → ((said (request_of clock n l t c d).answer).number ≡ 0) ↔ Fits t c d (kept t (take n l))

-- "18 keeps its number and gets the narrower meaning."
abbrev pub NoPlaceExactly : Type 0
NoPlaceExactly =
    (clock n : ℕ) (l : List Job) (t c d : ℕ)
    → Refuses (request_of clock n l t c d) 18 ↔ (NoLower (request_of clock n l t c d) × (Fits t c d (kept t (take n l)) → ⊥))

-- "The lowest place .. is taken, start s"
abbrev pub TakenStart : Type 0
TakenStart =
    (clock n : ℕ) (l : List Job) (t c d i s : ℕ) → (request_of clock n l t c d).answer ≡ Ok (Taken i s) → s ≡ start_at t (kept t (take n l)) i

-- "the lowest place with the largest room, that room"
pub record Roomy (t d : ℕ) (js : List Job) (place room : ℕ) : Type 0 where
  pub inside : place < places_of t d js
  pub room_is : room_at t d js place ≡ room
  pub largest : (i : ℕ) → i < places_of t d js → room_at t d js i ≤ room
  pub lowest : (i : ℕ) → i < place → room_at t d js i < room

-- "With its 18 the desk gives the lowest place with the largest room, that room": and there the request has no room
abbrev pub NoPlaceRoomiest : Type 0
NoPlaceRoomiest =
    (clock n : ℕ) (l : List Job) (t c d place room : ℕ) (binding : Binding)
    → (request_of clock n l t c d).answer ≡ Err (NoPlace (Roomiest place room binding))
    → Roomy t d (kept t (take n l)) place room × (room < c)

-- "If there is none, as when t is past d, say so": then no job left has a ≤ d
abbrev pub NoPlaceNowhere : Type 0
NoPlaceNowhere =
    (clock n : ℕ) (l : List Job) (t c d : ℕ) (why : Explanation) → (request_of clock n l t c d).answer ≡ Err (NoPlace why)
    → (why ≡ Nowhere) ↔ ((early d (kept t (take n l)) ≡ 0) × (d < t))

-- a job at place i that ends at e keeps the deadline d, and of the later jobs, moved as it forces them, job k is the first to end after its own
pub record Breaks (e d : ℕ) (js : List Job) (i k : ℕ) : Type 0 where
  pub own_kept : e ≤ d
  pub from : i ≤ k
  pub inside : k < length js
  pub late : deadline (get_or (shift e (drop i js)) (k - i) none) < ends (get_or (shift e (drop i js)) (k - i) none)
  pub first :
      (m : ℕ) → i ≤ m → m < k
      → ends (get_or (shift e (drop i js)) (m - i) none) ≤ deadline (get_or (shift e (drop i js)) (m - i) none)

-- "one tick more in that place does break the deadline named": the request's own, or that of the job named, first of all
abbrev pub TickBreaks : ℕ → ℕ → List Job → ℕ → ℕ → Binding → Type 0
TickBreaks t d js place room Own = d < start_at t js place + (room + 1)
TickBreaks t d js place room (Listed k) = Breaks (start_at t js place + (room + 1)) d js place k

abbrev pub NoPlaceBreaks : Type 0
NoPlaceBreaks =
    (clock n : ℕ) (l : List Job) (t c d place room : ℕ) (binding : Binding)
    → (request_of clock n l t c d).answer ≡ Err (NoPlace (Roomiest place room binding))
    → TickBreaks t d (kept t (take n l)) place room binding

-- so many ticks as are told break none: they are taken, just there
abbrev pub NoPlaceRoomTaken : Type 0
NoPlaceRoomTaken =
    (clock n : ℕ) (l : List Job) (t c d place room : ℕ) (binding : Binding)
    → (request_of clock n l t c d).answer ≡ Err (NoPlace (Roomiest place room binding)) → 1 ≤ room
    → (request_of clock n l t room d).answer ≡ Ok (Taken place (start_at t (kept t (take n l)) place))

-- "it is running: busy": after 16 the first job in the table has begun and not ended, and a request when it ends is not refused with 16, whatever it asks for
pub record Running (t : ℕ) (o : Outcome) : Type 0 where
  pub begun : start (get_or o.jobs 0 none) < t
  pub unended : t < ends (get_or o.jobs 0 none)
  pub free_then :
      (u c d : ℕ) → u ≡ ends (get_or o.jobs 0 none) → Refuses (request_of o.clock o.count o.jobs u c d) 16 → ⊥

abbrev pub BusyEnds : Type 0
BusyEnds =
    (clock n : ℕ) (l : List Job) (t c d : ℕ) → Refuses (request_of clock n l t c d) 16 → Running t (request_of clock n l t c d)

-- at opening every listed job stands at the start that was lent
abbrev pub OpenTells : Type 0
OpenTells =
    (clock n : ℕ) (l : List Job) → (open_of clock n l).answer ≡ Ok Opened
    → ever (begin clock n l) ≡ standing (take n l)

-- "Over any requests after one opening, the caller changing nothing lent between them"
abbrev pub InEveryStory : (Story → Type 0) → Type 0
InEveryStory P = (clock n : ℕ) (l : List Job) → (open_of clock n l).answer ≡ Ok Opened → (qs : List Asked) → P (many qs (begin clock n l))

-- its live entries are the listed jobs, one for one
pub record Matches (h : Story) : Type 0 where
  pub all : length (live h) ≡ h.desk.count
  pub start : (k : ℕ) → k < h.desk.count → (get_or (live h) k no_entry).start ≡ start (get_or h.desk.jobs k none)
  pub budget : (k : ℕ) → k < h.desk.count → (get_or (live h) k no_entry).budget ≡ budget (get_or h.desk.jobs k none)
  pub deadline : (k : ℕ) → k < h.desk.count → (get_or (live h) k no_entry).deadline ≡ deadline (get_or h.desk.jobs k none)

abbrev pub StoryTells : Type 0
StoryTells = InEveryStory (λ h. Matches h)

-- "no job starts before its opening start (a job taken in later: before its request time), no two overlap, each ends by its deadline"
abbrev pub KeepsPromise : Type 0
KeepsPromise = InEveryStory (λ h. Promise (ever h))

-- no job is lost: there are those of the opening and one for each request taken
abbrev pub LosesNone : Type 0
LosesNone =
    (clock n : ℕ) (l : List Job) → (open_of clock n l).answer ≡ Ok Opened → (qs : List Asked)
    → length (ever (many qs (begin clock n l))) ≡ n + takens qs (begin clock n l)

-- a refusal moves nothing
abbrev pub RefusedMovesNone : Type 0
RefusedMovesNone = InEveryStory (λ h. (q : Asked) (r : Refusal) → (next h q).desk.answer ≡ Err r → ever (next h q) ≡ ever h)

-- a job taken in stands at the start that was answered, those before it stay, "Later jobs move"
abbrev pub TakenJoins : Type 0
TakenJoins =
    InEveryStory
    (λ h. (q : Asked) (i s : ℕ) → (next h q).desk.answer ≡ Ok (Taken i s)
    → Joined (ever h) (ever (next h q)) (length (next h q).gone + i) (entry q.time q.budget q.deadline s))

-- nothing that has started by a request's time is moved by it
abbrev pub StartedStays : Type 0
StartedStays = InEveryStory (λ h. (q : Asked) → Fixed q.time (ever h) (ever (next h q)))

-- nor by any later request, once the clock has passed its start
abbrev pub StartedStaysEver : Type 0
StartedStaysEver = InEveryStory (λ h. (qs : List Asked) → Fixed h.desk.clock (ever h) (ever (many qs h)))

pub record Proved : Type 0 where
  pub open_leaves : OpenLeaves
  pub request_leaves : RequestLeaves
  pub taken_sets_clock : TakenSetsClock
  pub open_keeps_rules : OpenKeepsRules
  pub request_keeps_rules : RequestKeepsRules
  pub not_rules_after_open : NotRulesAfterOpen
  pub not_rules_after_request : NotRulesAfterRequest
  pub open_afresh : OpenAfresh
  pub request_afresh : RequestAfresh
  pub room_never_too_far : RoomNeverTooFar
  pub never_too_far : NeverTooFar
  pub lower_exactly : LowerExactly
  pub taken_exactly : TakenExactly
  pub no_place_exactly : NoPlaceExactly
  pub taken_start : TakenStart
  pub no_place_roomiest : NoPlaceRoomiest
  pub no_place_nowhere : NoPlaceNowhere
  pub no_place_breaks : NoPlaceBreaks
  pub no_place_room_taken : NoPlaceRoomTaken
  pub busy_ends : BusyEnds
  pub open_tells : OpenTells
  pub story_tells : StoryTells
  pub keeps_promise : KeepsPromise
  pub loses_none : LosesNone
  pub refused_moves_none : RefusedMovesNone
  pub taken_joins : TakenJoins
  pub started_stays : StartedStays
  pub started_stays_ever : StartedStaysEver
