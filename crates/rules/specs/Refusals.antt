-- Document 01's table of refusals: "No.", and "Also returned", with those of document 02; and what a caller is told. Assumes nothing.
use Rattle.std.specs.Prelude.{ℕ, ◌≡◌, Result, Ok, Err}
use Rattle.rules.specs.declared.Refusal.{Refusal}
use Rattle.rules.specs.declared.Refusal.TheVariants.{Short, Edition, Limits, Offset, Length, Partition, Task, Tick, Asked, Shortfall, Unharmonic, Want, Output, Rules, Numbers, Past, Busy, Full, NoPlace, Counts, Granule, Beyond}
use Rattle.rules.specs.declared.Binding.{Binding}
use Rattle.rules.specs.declared.Binding.TheVariants.{Own, Listed}
use Rattle.rules.specs.declared.Explanation.{Explanation}
use Rattle.rules.specs.declared.Explanation.TheVariants.{Nowhere, Roomiest}
use Rattle.rules.specs.declared.Told.{Told}

-- a number, and up to four values beside it; a fifth is the reader's alone
abbrev pub telling : ℕ → ℕ → ℕ → ℕ → ℕ → Told
telling n a b c d = record { number = n; first = a; second = b; third = c; fourth = d; fifth = 0 }

abbrev pub placed : ℕ → ℕ → Told
placed n place = telling n place 0 0 0

-- of many questions in one call the place from 1, of one question 0
abbrev pub questioned : ℕ → ℕ → Told
questioned n question = telling n 0 question 0 0

-- "whether the request's own deadline or a listed job's binds it": 1 or 2, and that job, else 0
abbrev pub binding_kind : Binding → ℕ
binding_kind Own = 1
binding_kind (Listed job) = 2

abbrev pub binding_job : Binding → ℕ
binding_job Own = 0
binding_job (Listed job) = job

-- "the lowest place with the largest room, that room", and what binds it; "If there is none .. say so": zeros
abbrev pub roomiest_place : Explanation → ℕ
roomiest_place Nowhere = 0
roomiest_place (Roomiest place room binding) = place

abbrev pub roomiest_room : Explanation → ℕ
roomiest_room Nowhere = 0
roomiest_room (Roomiest place room binding) = room

abbrev pub roomiest_kind : Explanation → ℕ
roomiest_kind Nowhere = 0
roomiest_kind (Roomiest place room binding) = binding_kind binding

abbrev pub roomiest_job : Explanation → ℕ
roomiest_job Nowhere = 0
roomiest_job (Roomiest place room binding) = binding_job binding

abbrev pub told : Refusal → Told
told Short = placed 1 0
told Edition = placed 2 0
told Limits = placed 3 0
told Offset = placed 4 0
told Length = placed 5 0
told (Partition place) = placed 6 place
told (Task place) = placed 7 place
told (Tick place) = placed 8 place
-- "a partition asked for or a new owner outside the table is 8 with place 0"
told (Asked question) = questioned 8 question
told (Shortfall p s h w) = telling 9 p s h w
told Unharmonic = placed 10 0
told Want = placed 11 0
told Output = placed 12 0
told Rules = placed 13 0
told Numbers = placed 14 0
told Past = placed 15 0
told Busy = placed 16 0
told Full = placed 17 0
told (NoPlace why) = telling 18 (roomiest_place why) (roomiest_room why) (roomiest_kind why) (roomiest_job why)
-- 19, "a move would exceed a job's x", is gone: "The number isn't used again."
-- "a list that disagrees with the plan is 20"
told Counts = placed 20 0
-- "g outside 1 to 16 is 21"
told Granule = placed 21 0
-- "a tick outside the plan or a stretch longer than the frame is 26"
told (Beyond question) = questioned 26 question

-- a call's answer, told as f says, or why it refuses
abbrev pub told_by : {A : Type 0} → (A → Told) → Result A Refusal → Told
told_by f (Ok a) = f a
told_by f (Err r) = told r

-- 0 where nothing tells against the call
abbrev pub told_done : Result (Unit {0}) Refusal → Told
told_done = told_by (λ _. placed 0 0)

-- 0 and the frame, the length of the file or text, how many counts or answers, or the count asked for
abbrev pub told_count : Result ℕ Refusal → Told
told_count = told_by (placed 0)

-- a call tells t: what its rule permits as the answer, told so
abbrev pub Tells : {A : Type 0} → (A → Told) → (A → Type 0) → Told → Type 0
Tells {A} tell Answers t = (r : A) × Answers r × (t ≡ tell r)
