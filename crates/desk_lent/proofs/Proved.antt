-- Each statement of specs/Theorems.antt, proved. Assumes nothing.
use mathlib.Core.Path.{◌≡◌, sym, ap, ◌∙◌}
use mathlib.Core.List.{List, [], ◌∷◌}
use Rattle.desk.specs.declared.Job.{Job}
use Rattle.desk.specs.declared.Asked.{Asked}
use Rattle.desk.specs.Table.{Outcome}
use Rattle.desk.specs.Request.{request_of}
use Rattle.desk.specs.Story.{Story, begin, next, many}
use Rattle.desk.specs.declared.Desk.{Desk}
use Rattle.desk.specs.Call.{desk_of}
use Rattle.desk_lent.specs.Theorems.{LentOne, Asks, LentStory, Proved}

lent_one : LentOne
lent_one o r r₂ k k₂ l l₂ h g = (h.0 ∙ sym g.0, h.1 ∙ sym g.1, h.2 ∙ sym g.2)

on : (qs : List Asked) (h : Story) (k : Desk) (l : List Job) → k ≡ desk_of h.desk → l ≡ h.desk.jobs
    → (k₂ : Desk) (l₂ : List Job) → Asks qs k l k₂ l₂ → (k₂ ≡ desk_of (many qs h).desk) × (l₂ ≡ (many qs h).desk.jobs)
on [] h k l ek el k₂ l₂ a = (a.0 ∙ ek, a.1 ∙ el)
on (q ∷ qs) h k l ek el k₂ l₂ a =
    let same : request_of k.clock k.count l q.time q.budget q.deadline ≡ (next h q).desk = rw (ek, el) in
    on qs (next h q) a.1 a.2 (a.3.1 ∙ ap desk_of same) (a.3.2 ∙ ap (λ (o : Outcome). o.jobs) same) k₂ l₂ a.4

lent_story : LentStory
lent_story k l r k₁ l₁ left qs k₂ l₂ a = on qs (begin k.clock k.count l) k₁ l₁ left.1 left.2 k₂ l₂ a

pub proved : Proved
proved = record { lent_one = lent_one; lent_story = lent_story }
