-- A desk's whole story, kept beside the calls: document 01, "Over any requests after one opening, the caller changing nothing lent between them". Assumes nothing.
use Rattle.std.specs.Prelude.{ℕ, suc, ◌+◌, ◌<◌, ◌≤◌, ◌≡◌, List, [], ◌∷◌, ◌++◌, leb, length, take, drop, get_or, Result, Ok, Err}
use Rattle.rules.specs.Walk.{pick}
use Rattle.desk.specs.declared.Job.{Job}
use Rattle.desk.specs.declared.Asked.{Asked}
use Rattle.desk.specs.declared.Done.{Done}
use Rattle.desk.specs.declared.Done.TheVariants.{Opened, Taken}
use Rattle.rules.specs.declared.Refusal.{Refusal}
use Rattle.desk.specs.Table.{start, budget, deadline, Outcome, open_of}
use Rattle.desk.specs.Request.{request_of}

-- a job ever listed: its opening start or its request time, its budget, its deadline, and its start
pub record Entry : Type 0 where
  pub since : ℕ
  pub budget : ℕ
  pub deadline : ℕ
  pub start : ℕ

abbrev pub entry : ℕ → ℕ → ℕ → ℕ → Entry
entry b c d s = record { since = b; budget = c; deadline = d; start = s }

abbrev pub no_entry : Entry
no_entry = entry 0 0 0 0

abbrev pub finish : Entry → ℕ
finish r = r.start + r.budget

-- the entries that end by t, and those that do not
abbrev pub ended : ℕ → List Entry → List Entry
ended t [] = []
ended t (r ∷ rs) = pick (leb (finish r) t) (r ∷ ended t rs) (ended t rs)

abbrev pub unended : ℕ → List Entry → List Entry
unended t [] = []
unended t (r ∷ rs) = pick (leb (finish r) t) (unended t rs) (r ∷ unended t rs)

-- jobs as they stand, each from its own start on
abbrev pub standing : List Job → List Entry
standing [] = []
standing (j ∷ js) = entry (start j) (budget j) (deadline j) (start j) ∷ standing js

-- the same jobs, in the table's order, at the starts that the table has
abbrev pub entries : List Entry → List Job → List Entry
entries [] js = []
entries (r ∷ rs) [] = []
entries (r ∷ rs) (j ∷ js) = entry r.since r.budget r.deadline (start j) ∷ entries rs js

-- desk: what the last call left; gone: the jobs dropped, at their last starts; listed: those in the table, as they were before that call
pub record Story : Type 0 where
  pub desk : Outcome
  pub gone : List Entry
  pub listed : List Entry

abbrev pub live : Story → List Entry
live h = entries h.listed (take h.desk.count h.desk.jobs)

-- every job ever listed: first those dropped, then those in the table
abbrev pub ever : Story → List Entry
ever h = h.gone ++ live h

-- the story at opening
abbrev pub begin : ℕ → ℕ → List Job → Story
begin clock n l = record { desk = open_of clock n l; gone = []; listed = standing (take n l) }

-- a job taken in is listed at its place
abbrev pub with_new : Asked → Result Done Refusal → List Entry → List Entry
with_new q (Ok Opened) rs = rs
with_new q (Ok (Taken i s)) rs = take i rs ++ (entry q.time q.budget q.deadline s ∷ drop i rs)
with_new q (Err r) rs = rs

-- a request that leaves o: the jobs that end by the desk's clock, which 13, 14 and 15 leave as it was, are gone
abbrev pub after : Story → Asked → Outcome → Story
after h q o =
    record { desk = o; gone = h.gone ++ ended o.clock (live h); listed = with_new q o.answer (unended o.clock (live h)) }

-- one request, on just what the last call left
abbrev pub next : Story → Asked → Story
next h q = after h q (request_of h.desk.clock h.desk.count h.desk.jobs q.time q.budget q.deadline)

abbrev pub many : List Asked → Story → Story
many [] h = h
many (q ∷ qs) h = many qs (next h q)

-- "no job starts before its opening start (a job taken in later: before its request time), no two overlap, each ends by its deadline":
-- of any two the later in the list starts when the earlier has ended
pub record Promise (rs : List Entry) : Type 0 where
  pub not_before : (k : ℕ) → k < length rs → (get_or rs k no_entry).since ≤ (get_or rs k no_entry).start
  pub in_time : (k : ℕ) → k < length rs → finish (get_or rs k no_entry) ≤ (get_or rs k no_entry).deadline
  pub apart : (i k : ℕ) → i < k → k < length rs → finish (get_or rs i no_entry) ≤ (get_or rs k no_entry).start

-- the same job, not earlier
abbrev pub Later : Entry → Entry → Type 0
Later r u = (r.since ≡ u.since) × (r.budget ≡ u.budget) × (r.deadline ≡ u.deadline) × (r.start ≤ u.start)

-- us is rs with a new entry at place k: those before it are as they were, those after it are only delayed
pub record Joined (rs us : List Entry) (k : ℕ) (new : Entry) : Type 0 where
  pub one_more : length us ≡ suc (length rs)
  pub inside : k ≤ length rs
  pub there : get_or us k no_entry ≡ new
  pub before : take k us ≡ take k rs
  pub later : (m : ℕ) → k ≤ m → m < length rs → Later (get_or rs m no_entry) (get_or us (suc m) no_entry)

-- the entries that start before t are in us as they were
abbrev pub Fixed : ℕ → List Entry → List Entry → Type 0
Fixed t rs us = (k : ℕ) → k < length rs → (get_or rs k no_entry).start < t → get_or us k no_entry ≡ get_or rs k no_entry

-- how many of the requests are taken
abbrev pub count_taken : Result Done Refusal → ℕ → ℕ
count_taken (Ok Opened) n = n
count_taken (Ok (Taken i s)) n = suc n
count_taken (Err r) n = n

abbrev pub takens : List Asked → Story → ℕ
takens [] h = 0
takens (q ∷ qs) h = count_taken (next h q).desk.answer (takens qs (next h q))
