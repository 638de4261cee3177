-- The running counts kept beside a plan, and what the calls over them answer. Assumes nothing.
use Rattle.std.specs.Prelude.{ℕ, ◌+◌, ◌-◌, ◌*◌, ◌/◌, ◌%◌, ◌≡◌, Bool, true, ◌&&◌, List, [], ◌++◌, length, get_or, set, drop, ltb, leb, eqb, Result, Ok, Err}
use Rattle.rules.specs.Walk.{pick, fails, some, listed}
use Rattle.rules.specs.Limits.{question_width}
use Rattle.rules.specs.Table.{field_at, partitions}
use Rattle.rules.specs.Filling.{left_by}
use Rattle.rules.specs.declared.Refusal.{Refusal}
use Rattle.rules.specs.declared.Refusal.TheVariants.{Limits, Output, Asked, Counts, Beyond}
use Rattle.rules.specs.Terms.{usual}
use Rattle.tables.specs.Tables.{lowest, unless, tables_of, ticks_judged}
use Rattle.rules.specs.declared.Rule.TheVariants.{Own}
use Rattle.theory.specs.Plan.{held}

-- ---- the list

-- "for each partition .. each tick from 0 to F": so many numbers a partition
abbrev pub row_width : List ℕ → ℕ
row_width plan = length plan + 1

-- "the count of own ticks before each tick": number i of the list, which goes partition by partition
unfoldable pub count_at : List ℕ → ℕ → ℕ
count_at plan i = held Own plan (i / row_width plan + 1) (i % row_width plan) 0

-- where p's numbers begin
abbrev pub row_of : List ℕ → ℕ → ℕ
row_of plan p = (p - 1) * row_width plan

-- how many numbers the list has
abbrev pub needed : List ℕ → List ℕ → ℕ
needed plan ps = partitions ps * row_width plan

-- the list
abbrev pub running_counts : List ℕ → List ℕ → List ℕ
running_counts plan ps = listed (count_at plan) (needed plan ps)

-- a lent list of so many numbers has room for them: "a list too short is 12"
abbrev pub long_enough : List ℕ → List ℕ → ℕ → Bool
long_enough plan ps n = leb (needed plan ps) n

-- number i of a lent list is the plan's
unfoldable pub agrees_at : List ℕ → List ℕ → ℕ → Bool
agrees_at plan list i = eqb (get_or list i 0) (count_at plan i)

-- ---- the refusals

-- "the checker's 3, 6 and 8"
unfoldable pub plan_judged : List ℕ → List ℕ → Result (Unit {0}) Refusal
plan_judged plan ps = unless Err (tables_of usual (length plan) ps []) (ticks_judged plan ps)

-- "a list too short is 12; a list that disagrees with the plan is 20, after 12"; and whether the call's other output is long enough
unfoldable pub list_judged : List ℕ → List ℕ → List ℕ → Bool → Result (Unit {0}) Refusal
list_judged plan ps list enough =
    pick (long_enough plan ps (length list) && enough)
    (pick (some (fails (agrees_at plan list)) (needed plan ps)) (Err Counts) (Ok tt))
    (Err Output)

-- the order: 3, 6, 8, then what is found of the partition or owner named (8 with place 0), 12, 20, then of the tick or stretch (26)
unfoldable pub counts_judged : List ℕ → List ℕ → List ℕ → Result (Unit {0}) Refusal → Bool → Result (Unit {0}) Refusal → Result (Unit {0}) Refusal
counts_judged plan ps list named enough within = unless Err (plan_judged plan ps) (unless Err named (unless Err (list_judged plan ps list enough) within))

-- refused where a test fails
abbrev pub unless_good : Bool → Refusal → Result (Unit {0}) Refusal
unless_good good r = pick good (Ok tt) (Err r)

-- "a partition asked for .. outside the table" is not good, and 0 is none
unfoldable pub good_name : ℕ → ℕ → Bool
good_name parts p = leb 1 p && leb p parts

-- a start in 0 .. F − 1 and a length 0 .. F: "a stretch longer than the frame" is not good
unfoldable pub good_stretch : ℕ → ℕ → ℕ → Bool
good_stretch f s n = ltb s f && leb n f

-- ---- filling the list

-- the plan's 3, 6 and 8, then 12
unfoldable pub fill_of : List ℕ → List ℕ → ℕ → Result ℕ Refusal
fill_of plan ps room = unless Err (plan_judged plan ps) (pick (long_enough plan ps room) (Ok (needed plan ps)) (Err Output))

-- the answer r of the call, and o what the list then holds: a longer one keeps its tail
abbrev pub FillsCounts : List ℕ → List ℕ → List ℕ → List ℕ → Result ℕ Refusal → Type 0
FillsCounts plan ps list o r = (r ≡ fill_of plan ps (length list)) × (o ≡ left_by r (running_counts plan ps) list)

-- ---- held of a stretch

-- "equals the count by walking": the n ticks from tick s on, across the frame's end too
unfoldable pub held_of : List ℕ → List ℕ → List ℕ → ℕ → ℕ → ℕ → Result ℕ Refusal
held_of plan ps list p s n =
    unless Err
    (counts_judged plan ps list (unless_good (good_name (partitions ps) p) (Asked 0)) true (unless_good (good_stretch (length plan) s n) (Beyond 0)))
    (Ok (held Own plan p n s))

-- the answer r of the call
abbrev pub HoldsOne : List ℕ → List ℕ → List ℕ → ℕ → ℕ → ℕ → Result ℕ Refusal → Type 0
HoldsOne plan ps list p s n r = r ≡ held_of plan ps list p s n

-- ---- held of many stretches

-- question k of a flat list: a partition, a start and a length each
abbrev pub asked : List ℕ → ℕ → ℕ
asked qs k = field_at question_width qs k 0

abbrev pub start : List ℕ → ℕ → ℕ
start qs k = field_at question_width qs k 1

abbrev pub span : List ℕ → ℕ → ℕ
span qs k = field_at question_width qs k 2

abbrev pub questions : List ℕ → ℕ
questions qs = length qs / question_width

unfoldable pub names_one : ℕ → List ℕ → ℕ → Bool
names_one parts qs k = good_name parts (asked qs k)

unfoldable pub within_frame : ℕ → List ℕ → ℕ → Bool
within_frame f qs k = good_stretch f (start qs k) (span qs k)

-- the answer to question k
unfoldable pub answer_at : List ℕ → List ℕ → ℕ → ℕ
answer_at plan qs k = held Own plan (asked qs k) (span qs k) (start qs k)

-- the same refusals, where 8 with place 0 and 26 are the lowest question's, and answers too short are 12 too; 3 also where the questions are not whole
unfoldable pub many_of : List ℕ → List ℕ → List ℕ → List ℕ → ℕ → Result ℕ Refusal
many_of plan ps list qs room =
    pick (eqb (length qs % question_width) 0)
    (unless Err
    (counts_judged plan ps list (lowest Asked (names_one (partitions ps) qs) (questions qs)) (leb (questions qs) room) (lowest Beyond (within_frame (length plan) qs) (questions qs)))
    (Ok (questions qs)))
    (Err Limits)

-- the answer r of the call, and o what the answers' output then holds
abbrev pub HoldsMany : List ℕ → List ℕ → List ℕ → List ℕ → List ℕ → List ℕ → Result ℕ Refusal → Type 0
HoldsMany plan ps list qs out o r = (r ≡ many_of plan ps list qs (length out)) × (o ≡ left_by r (listed (answer_at plan qs) (questions qs)) out)

-- ---- changing one tick's owner

-- "a new owner outside the table is 8 with place 0 (owner 0 is good)", "a tick outside the plan .. is 26"
unfoldable pub change_of : List ℕ → List ℕ → List ℕ → ℕ → ℕ → Result (Unit {0}) Refusal
change_of plan ps list tick owner =
    counts_judged plan ps list (unless_good (leb owner (partitions ps)) (Asked 0)) true (unless_good (ltb tick (length plan)) (Beyond 0))

-- "None of them changes anything": what is lent holds the new, or what it held where the call refuses
abbrev pub changed_by : Result (Unit {0}) Refusal → List ℕ → List ℕ → List ℕ
changed_by found new old = unless (λ r. old) found new

-- the answer r of the call, plan' and o what plan and list then hold: the changed plan, and its list with the tail kept
abbrev pub Changes : List ℕ → List ℕ → List ℕ → ℕ → ℕ → List ℕ → List ℕ → Result (Unit {0}) Refusal → Type 0
Changes plan ps list tick owner plan' o r =
    (r ≡ change_of plan ps list tick owner)
    × (plan' ≡ changed_by r (set plan tick owner) plan)
    × (o ≡ changed_by r (running_counts (set plan tick owner) ps ++ drop (needed plan ps) list) list)
