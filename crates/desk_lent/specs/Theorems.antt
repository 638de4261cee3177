-- What is proved of the lent calls: the desk's own theorems speak of the caller's memory. `Proved` has a field for each. Assumes nothing.
use Rattle.std.specs.Prelude.{◌≡◌, List, [], ◌∷◌, Result}
use Rattle.desk.specs.declared.Job.{Job}
use Rattle.desk.specs.declared.Asked.{Asked}
use Rattle.desk.specs.declared.Done.{Done}
use Rattle.rules.specs.declared.Refusal.{Refusal}
use Rattle.desk.specs.Table.{Outcome, open_of}
use Rattle.desk.specs.Request.{request_of}
use Rattle.desk.specs.Story.{begin, many}
use Rattle.desk.specs.declared.Desk.{Desk}
use Rattle.desk.specs.Call.{desk_of, Leaves}

-- "any two outcomes it permits are equal"
abbrev pub LentOne : Type 0
LentOne =
    (o : Outcome) (r r₂ : Result Done Refusal) (k k₂ : Desk) (l l₂ : List Job)
    → Leaves o r k l → Leaves o r₂ k₂ l₂ → (r ≡ r₂) × (k ≡ k₂) × (l ≡ l₂)

-- the requests qs one after the other, "the caller changing nothing lent between them", from the record k and the table l to k₂ and l₂
abbrev pub Asks : List Asked → Desk → List Job → Desk → List Job → Type 0
Asks [] k l k₂ l₂ = (k₂ ≡ k) × (l₂ ≡ l)
Asks (q ∷ qs) k l k₂ l₂ =
    (r : Result Done Refusal) × (k₁ : Desk) × (l₁ : List Job)
    × Leaves (request_of k.clock k.count l q.time q.budget q.deadline) r k₁ l₁ × Asks qs k₁ l₁ k₂ l₂

-- "Over any requests after one opening" the record and the table are those of the desk's story, whose promises so hold of them
abbrev pub LentStory : Type 0
LentStory =
    (k : Desk) (l : List Job) (r : Result Done Refusal) (k₁ : Desk) (l₁ : List Job) → Leaves (open_of k.clock k.count l) r k₁ l₁
    → (qs : List Asked) (k₂ : Desk) (l₂ : List Job) → Asks qs k₁ l₁ k₂ l₂
    → (k₂ ≡ desk_of (many qs (begin k.clock k.count l)).desk) × (l₂ ≡ (many qs (begin k.clock k.count l)).desk.jobs)

pub record Proved : Type 0 where
  pub lent_one : LentOne
  pub lent_story : LentStory
