-- What the answers mean. Assumes nothing.
use Rattle.std.specs.Prelude.{ℕ, ◌+◌, ◌*◌, ◌%◌, ◌≤◌, ◌<◌, ◌≡◌, ◌↔◌, ◌⊎◌, List, [], ◌++◌, length, get_or, set, drop, Result, Ok, Err}
use Rattle.rules.specs.Walk.{Every}
use Rattle.rules.specs.Limits.{question_width}
use Rattle.rules.specs.Table.{partitions, good_tick}
use Rattle.rules.specs.Refusals.{told}
use Rattle.rules.specs.declared.Refusal.{Refusal}
use Rattle.rules.specs.declared.Refusal.TheVariants.{Limits, Output, Asked, Counts, Beyond}
use Rattle.rules.specs.Terms.{usual, wanted}
use Rattle.tables.specs.Tables.{unless, GoodTables}
use Rattle.plan_check.specs.Check.{scan_of, check_of}
use Rattle.rules.specs.declared.Rule.TheVariants.{Own}
use Rattle.theory.specs.Plan.{held}
use Rattle.counts.specs.Counts.{row_width, row_of, needed, running_counts, agrees_at, plan_judged, fill_of, FillsCounts, held_of, HoldsOne, asked, start, span, questions, many_of, HoldsMany, change_of, Changes}

-- ---- the list

-- where p's count before tick k stands
abbrev pub number_of : List ℕ → ℕ → ℕ → ℕ
number_of plan p k = row_of plan p + k

-- p is a partition of the table
abbrev pub Named : List ℕ → ℕ → Type 0
Named ps p = (1 ≤ p) × (p ≤ partitions ps)

-- a partition of the table, and a tick from 0 to F
pub record HasNumber (plan ps : List ℕ) (p k : ℕ) : Type 0 where
  pub named : Named ps p
  pub upto : k ≤ length plan

-- "for each partition the count of own ticks before each tick from 0 to F": np·(F + 1) numbers, which are these
abbrev pub ListIs : Type 0
ListIs =
    (plan ps : List ℕ)
    → (length (running_counts plan ps) ≡ partitions ps * row_width plan)
    × ((p k : ℕ) → HasNumber plan ps p k → get_or (running_counts plan ps) (number_of plan p k) 0 ≡ held Own plan p k 0)

-- a plan by the checker's 3, 6 and 8; it need not serve
pub record Planned (plan ps : List ℕ) : Type 0 where
  pub tables : GoodTables usual (length plan) ps []
  pub ticks : Every (good_tick (partitions ps) plan) (length plan)

-- a list that is the plan's: long enough, and each number the count
pub record Counted (plan ps list : List ℕ) : Type 0 where
  pub long : needed plan ps ≤ length list
  pub counts : Every (agrees_at plan list) (needed plan ps)

-- that is: the plan's list, and any tail
abbrev pub CountedIs : Type 0
CountedIs = (plan ps list : List ℕ) → Counted plan ps list ↔ (list ≡ running_counts plan ps ++ drop (needed plan ps) list)

-- ---- the plan

-- "the checker's 3, 6 and 8": of these nothing tells exactly where the plan is good, and the checker tells them first
abbrev pub PlanExactly : Type 0
PlanExactly = (plan ps : List ℕ) → (plan_judged plan ps ≡ (Ok tt)) ↔ Planned plan ps

abbrev pub PlanAsChecked : Type 0
PlanAsChecked = (plan ps : List ℕ) → check_of usual plan ps ≡ unless Err (plan_judged plan ps) (scan_of Own (wanted usual ps) plan ps)

-- a bad record or tick is told with its place from 1, so that 8 with place 0 is never a tick's
abbrev pub PlanPlaces : Type 0
PlanPlaces = (plan ps : List ℕ) (r : Refusal) → plan_judged plan ps ≡ Err r → ((told r).number ≡ 3) ⊎ (1 ≤ (told r).first)

-- ---- what each call answers, and where: the cases exclude one another, so that each answer is given exactly there

-- filling: "the checker's 3, 6 and 8", then "a list too short is 12"
pub data FilledBy (plan ps : List ℕ) (room : ℕ) : Result ℕ Refusal → Type 0 where
  fill_plan : (r : Refusal) → plan_judged plan ps ≡ Err r → FilledBy plan ps room (Err r)
  fill_length : Planned plan ps → room < needed plan ps → FilledBy plan ps room (Err Output)
  fill_done : Planned plan ps → needed plan ps ≤ room → FilledBy plan ps room (Ok (needed plan ps))

abbrev pub FillAnswers : Type 0
FillAnswers = (plan ps : List ℕ) (room : ℕ) → FilledBy plan ps room (fill_of plan ps room)

-- a stretch from a start in 0 .. F − 1 of a length 0 .. F
abbrev pub Within : List ℕ → ℕ → ℕ → Type 0
Within plan s n = (s < length plan) × (n ≤ length plan)

-- held: then 8 with place 0, 12, 20 and 26; else "is answered from it and equals the count by walking"
pub data HeldBy (plan ps list : List ℕ) (p s n : ℕ) : Result ℕ Refusal → Type 0 where
  held_plan : (r : Refusal) → plan_judged plan ps ≡ Err r → HeldBy plan ps list p s n (Err r)
  held_name : Planned plan ps → ¬ Named ps p → HeldBy plan ps list p s n (Err (Asked 0))
  held-length : Planned plan ps → Named ps p → length list < needed plan ps → HeldBy plan ps list p s n (Err Output)
  held-counts :
      Planned plan ps → Named ps p → needed plan ps ≤ length list → ¬ Counted plan ps list → HeldBy plan ps list p s n (Err Counts)
  held_stretch : Planned plan ps → Named ps p → Counted plan ps list → ¬ Within plan s n → HeldBy plan ps list p s n (Err (Beyond 0))
  held-done :
      Planned plan ps → Named ps p → Counted plan ps list → Within plan s n → HeldBy plan ps list p s n (Ok (held Own plan p n s))

abbrev pub HeldAnswers : Type 0
HeldAnswers = (plan ps list : List ℕ) (p s n : ℕ) → HeldBy plan ps list p s n (held_of plan ps list p s n)

-- many: the same of all questions, and of the lowest that breaks a rule, by its place from 1
abbrev pub NamedIn : List ℕ → List ℕ → ℕ → Type 0
NamedIn ps qs k = Named ps (asked qs k)

abbrev pub WithinIn : List ℕ → List ℕ → ℕ → Type 0
WithinIn plan qs k = Within plan (start qs k) (span qs k)

-- each of the first n
abbrev pub All : (ℕ → Type 0) → ℕ → Type 0
All P n = (k : ℕ) → k < n → P k

-- a list of whole questions
abbrev pub Whole : List ℕ → Type 0
Whole qs = length qs % question_width ≡ 0

pub data ManyBy (plan ps list qs : List ℕ) (room : ℕ) : Result ℕ Refusal → Type 0 where
  many-questions : ¬ Whole qs → ManyBy plan ps list qs room (Err Limits)
  many_plan : Whole qs → (r : Refusal) → plan_judged plan ps ≡ Err r → ManyBy plan ps list qs room (Err r)
  many-name :
      Whole qs → Planned plan ps → (k : ℕ) → k < questions qs → ¬ NamedIn ps qs k → All (NamedIn ps qs) k
      → ManyBy plan ps list qs room (Err (Asked (k + 1)))
  many-length :
      Whole qs → Planned plan ps → All (NamedIn ps qs) (questions qs) → (length list < needed plan ps) ⊎ (room < questions qs)
      → ManyBy plan ps list qs room (Err Output)
  many-counts :
      Whole qs → Planned plan ps → All (NamedIn ps qs) (questions qs) → needed plan ps ≤ length list → questions qs ≤ room
      → ¬ Counted plan ps list → ManyBy plan ps list qs room (Err Counts)
  many-stretch :
      Whole qs → Planned plan ps → All (NamedIn ps qs) (questions qs) → Counted plan ps list → questions qs ≤ room
      → (k : ℕ) → k < questions qs → ¬ WithinIn plan qs k → All (WithinIn plan qs) k → ManyBy plan ps list qs room (Err (Beyond (k + 1)))
  many-done :
      Whole qs → Planned plan ps → All (NamedIn ps qs) (questions qs) → Counted plan ps list → questions qs ≤ room
      → All (WithinIn plan qs) (questions qs) → ManyBy plan ps list qs room (Ok (questions qs))

abbrev pub ManyAnswers : Type 0
ManyAnswers = (plan ps list qs : List ℕ) (room : ℕ) → ManyBy plan ps list qs room (many_of plan ps list qs room)

-- each answer is that of the call that asks this alone
abbrev pub ManyEach : Type 0
ManyEach =
    (plan ps list qs out o : List ℕ) (n : ℕ) → HoldsMany plan ps list qs out o (Ok n)
    → (k : ℕ) → k < n → held_of plan ps list (asked qs k) (start qs k) (span qs k) ≡ Ok (get_or o k 0)

-- change: "a new owner outside the table .. (owner 0 is good)", "a tick outside the plan"
pub data ChangedBy (plan ps list : List ℕ) (tick owner : ℕ) : Result (Unit {0}) Refusal → Type 0 where
  change_plan : (r : Refusal) → plan_judged plan ps ≡ Err r → ChangedBy plan ps list tick owner (Err r)
  change_name : Planned plan ps → partitions ps < owner → ChangedBy plan ps list tick owner (Err (Asked 0))
  change_length : Planned plan ps → owner ≤ partitions ps → length list < needed plan ps → ChangedBy plan ps list tick owner (Err Output)
  change-counts :
      Planned plan ps → owner ≤ partitions ps → needed plan ps ≤ length list → ¬ Counted plan ps list → ChangedBy plan ps list tick owner (Err Counts)
  change-stretch :
      Planned plan ps → owner ≤ partitions ps → Counted plan ps list → length plan ≤ tick → ChangedBy plan ps list tick owner (Err (Beyond 0))
  change_done : Planned plan ps → owner ≤ partitions ps → Counted plan ps list → tick < length plan → ChangedBy plan ps list tick owner (Ok tt)

abbrev pub ChangeAnswers : Type 0
ChangeAnswers = (plan ps list : List ℕ) (tick owner : ℕ) → ChangedBy plan ps list tick owner (change_of plan ps list tick owner)

-- ---- what filling and asking leave

-- a list that is filled is the plan's
abbrev pub FillCounted : Type 0
FillCounted = (plan ps list o : List ℕ) (n : ℕ) → FillsCounts plan ps list o (Ok n) → Planned plan ps × Counted plan ps o

-- a longer list keeps its tail, and so do longer answers
abbrev pub FillKeeps : Type 0
FillKeeps =
    (plan ps list o : List ℕ) (r : Result ℕ Refusal) → FillsCounts plan ps list o r → (length o ≡ length list) × ((i : ℕ) → needed plan ps ≤ i → get_or o i 0 ≡ get_or list i 0)

abbrev pub ManyKeeps : Type 0
ManyKeeps =
    (plan ps list qs out o : List ℕ) (r : Result ℕ Refusal) → HoldsMany plan ps list qs out o r
    → (length o ≡ length out) × ((i : ℕ) → questions qs ≤ i → get_or o i 0 ≡ get_or out i 0)

-- ---- change

-- the list is then that of the changed plan
abbrev pub ChangeCounted : Type 0
ChangeCounted =
    (plan ps list plan' o : List ℕ) (tick owner : ℕ) → Changes plan ps list tick owner plan' o (Ok tt) → Planned plan' ps × Counted plan' ps o

-- "Changing one tick's owner changes that tick and only the later counts of the old and the new owner", each by one, number by number
pub record OnlyMoves (plan ps list plan' o : List ℕ) (tick owner : ℕ) : Type 0 where
  pub as_long : length plan' ≡ length plan
  pub given : get_or plan' tick 0 ≡ owner
  pub other_ticks : (t : ℕ) → ¬ (t ≡ tick) → get_or plan' t 0 ≡ get_or plan t 0
  pub list_as_long : length o ≡ length list
  pub earlier : (p k : ℕ) → HasNumber plan ps p k → k ≤ tick → get_or o (number_of plan p k) 0 ≡ get_or list (number_of plan p k) 0
  pub of_others :
      (p k : ℕ) → HasNumber plan ps p k → ¬ (p ≡ get_or plan tick 0) → ¬ (p ≡ owner) → get_or o (number_of plan p k) 0 ≡ get_or list (number_of plan p k) 0
  pub of_old :
      (p k : ℕ) → HasNumber plan ps p k → tick < k → p ≡ get_or plan tick 0 → ¬ (p ≡ owner)
      → get_or o (number_of plan p k) 0 + 1 ≡ get_or list (number_of plan p k) 0
  pub of_new :
      (p k : ℕ) → HasNumber plan ps p k → tick < k → ¬ (p ≡ get_or plan tick 0) → p ≡ owner
      → get_or o (number_of plan p k) 0 ≡ get_or list (number_of plan p k) 0 + 1
  pub of_both :
      (p k : ℕ) → HasNumber plan ps p k → p ≡ get_or plan tick 0 → p ≡ owner → get_or o (number_of plan p k) 0 ≡ get_or list (number_of plan p k) 0
  pub tail : (i : ℕ) → needed plan ps ≤ i → get_or o i 0 ≡ get_or list i 0

abbrev pub ChangeMoves : Type 0
ChangeMoves =
    (plan ps list plan' o : List ℕ) (tick owner : ℕ) → Changes plan ps list tick owner plan' o (Ok tt) → OnlyMoves plan ps list plan' o tick owner

-- a new owner that is the old one changes nothing
abbrev pub ChangeSame : Type 0
ChangeSame =
    (plan ps list plan' o : List ℕ) (tick : ℕ) (r : Result (Unit {0}) Refusal) → Changes plan ps list tick (get_or plan tick 0) plan' o r → (plan' ≡ plan) × (o ≡ list)

-- fill, then change, then held: neither is refused, and what is answered is held of the changed plan
abbrev pub FillChangeHeld : Type 0
FillChangeHeld =
    (plan ps list o plan' o' : List ℕ) (m tick owner : ℕ) (r : Result (Unit {0}) Refusal) → FillsCounts plan ps list o (Ok m)
    → Changes plan ps o tick owner plan' o' r → owner ≤ partitions ps → tick < length plan
    → (r ≡ (Ok tt))
    × ((p s n : ℕ) (a : Result ℕ Refusal) → Named ps p → Within plan s n → HoldsOne plan' ps o' p s n a → a ≡ Ok (held Own (set plan tick owner) p n s))

-- ---- "any two outcomes it permits are equal": the answer, and what is then left in all that was lent

abbrev pub FillOne : Type 0
FillOne = (plan ps list o o' : List ℕ) (r r' : Result ℕ Refusal) → FillsCounts plan ps list o r → FillsCounts plan ps list o' r' → (r ≡ r') × (o ≡ o')

abbrev pub CountsHeldOne : Type 0
CountsHeldOne = (plan ps list : List ℕ) (p s n : ℕ) (r r' : Result ℕ Refusal) → HoldsOne plan ps list p s n r → HoldsOne plan ps list p s n r' → r ≡ r'

abbrev pub ManyOne : Type 0
ManyOne =
    (plan ps list qs out o o' : List ℕ) (r r' : Result ℕ Refusal) → HoldsMany plan ps list qs out o r → HoldsMany plan ps list qs out o' r'
    → (r ≡ r') × (o ≡ o')

abbrev pub ChangeOne : Type 0
ChangeOne =
    (plan ps list plan₁ plan₂ o₁ o₂ : List ℕ) (tick owner : ℕ) (r r' : Result (Unit {0}) Refusal) → Changes plan ps list tick owner plan₁ o₁ r
    → Changes plan ps list tick owner plan₂ o₂ r' → (r ≡ r') × (plan₁ ≡ plan₂) × (o₁ ≡ o₂)

pub record Proved : Type 0 where
  pub list_is : ListIs
  pub counted_is : CountedIs
  pub plan_exactly : PlanExactly
  pub plan_as_checked : PlanAsChecked
  pub plan_places : PlanPlaces
  pub fill_answers : FillAnswers
  pub held_answers : HeldAnswers
  pub many_answers : ManyAnswers
  pub many_each : ManyEach
  pub change_answers : ChangeAnswers
  pub fill_counted : FillCounted
  pub fill_keeps : FillKeeps
  pub many_keeps : ManyKeeps
  pub change_counted : ChangeCounted
  pub change_moves : ChangeMoves
  pub change_same : ChangeSame
  pub fill_change_held : FillChangeHeld
  pub fill_one : FillOne
  pub held_one : CountsHeldOne
  pub many_one : ManyOne
  pub change_one : ChangeOne
