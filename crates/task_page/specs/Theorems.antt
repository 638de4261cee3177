-- What is promised of the page beyond its contract. Each statement's proof is a field of `Proved`. Assumes nothing.
use Rattle.std.specs.Prelude.{ℕ, ◌+◌, ◌-◌, ◌*◌, ◌≤◌, ◌<◌, ◌≡◌, true, List, length, get_or, Option, None, Some, Result, Ok, Err}
use Rattle.rules.specs.Limits.{row_width}
use Rattle.rules.specs.Table.{partition}
use Rattle.rules.specs.Terms.{rule_in}
use Rattle.rules.specs.declared.Terms.{Terms}
use Rattle.rules.specs.declared.Rule.{Rule}
use Rattle.rules.specs.declared.Refusal.{Refusal}
use Rattle.rules.specs.declared.Refusal.TheVariants.{Output}
use Rattle.theory.specs.Plan.{held, least}
use Rattle.theory.specs.Load.{demand, point, shortage}
use Rattle.theory.specs.Task.{task_load}
use Rattle.theory.specs.Theorems.{TightestPoint}
use Rattle.task_verdict.specs.Verdict.{verdict_of}
use Rattle.task_page.specs.declared.Paged.{Paged}
use Rattle.task_page.specs.declared.Paged.TheVariants.{Pass, Fail}
use Rattle.task_page.specs.Page.{points_of, tightest_of, shortage_of, page_of, Pages}

-- "A passing task lists nothing. Refusals: the verdict's; a list too short for a failing task's points is 12.": the page's answer beside the verdict's, for task i and a list of room numbers
pub data PageBy (rule : Rule) (plan ts : List ℕ) (i room : ℕ) : Result (Option ℕ) Refusal → Result Paged Refusal → Type 0 where
  page_refused : (r : Refusal) → PageBy rule plan ts i room (Err r) (Err r)
  page_pass : (t : ℕ) → PageBy rule plan ts i room (Ok (Some t)) (Ok (Pass t))
  page-short : room < row_width * points_of ts i → PageBy rule plan ts i room (Ok None) (Err Output)
  page_fail : row_width * points_of ts i ≤ room → PageBy rule plan ts i room (Ok None) (Ok (Fail (points_of ts i) (tightest_of rule plan ts i) (shortage_of rule plan ts i)))

abbrev pub PageAnswers : Type 0
PageAnswers =
    (terms : Terms) (plan ps ts : List ℕ) (place room : ℕ)
    → PageBy (rule_in terms) plan ts (place - 1) room (verdict_of terms plan ps ts place) (page_of terms plan ps ts place room)

-- a row's four numbers are "the rules' own": t is a scheduling point, "its demand, its least service and a worst start (the lowest)"; and it falls short there
pub record Row (rule : Rule) (plan ts : List ℕ) (i t needs has start : ℕ) : Type 0 where
  pub a_point : point (task_load ts) i t ≡ true
  pub demand_is : needs ≡ demand (task_load ts) i t
  pub least_is : has ≡ least rule plan (partition ts i) t
  pub in_frame : start < length plan
  pub worst : held rule plan (partition ts i) t start ≡ has
  pub lowest : (s : ℕ) → s < start → has < held rule plan (partition ts i) t s
  pub short : has < needs

-- "for each scheduling point in rising order": n rows, each point has one, and the list's tail is as it was
pub record Rows (rule : Rule) (plan ts : List ℕ) (i n : ℕ) (list o : List ℕ) : Type 0 where
  pub as_long : length o ≡ length list
  pub row :
      (k : ℕ) → k < n
      → Row rule plan ts i (get_or o (row_width * k) 0) (get_or o (row_width * k + 1) 0) (get_or o (row_width * k + 2) 0) (get_or o (row_width * k + 3) 0)
  pub rising : (j k : ℕ) → j < k → k < n → get_or o (row_width * j) 0 < get_or o (row_width * k) 0
  pub each_point : (t : ℕ) → point (task_load ts) i t ≡ true → (k : ℕ) × (k < n) × (get_or o (row_width * k) 0 ≡ t)
  pub tail : (k : ℕ) → row_width * n ≤ k → get_or o k 0 ≡ get_or list k 0

abbrev pub PageRows : Type 0
PageRows =
    (terms : Terms) (plan ps ts : List ℕ) (place : ℕ) (list o : List ℕ) (n t h : ℕ) → Pages terms plan ps ts place list o (Ok (Fail n t h))
    → Rows (rule_in terms) plan ts (place - 1) n list o

-- "name the point with the smallest shortage, lowest point on equals"; nowhere is it 0
abbrev pub PageTightest : Type 0
PageTightest =
    (terms : Terms) (plan ps ts : List ℕ) (place room n t h : ℕ) → page_of terms plan ps ts place room ≡ Ok (Fail n t h)
    → TightestPoint (task_load ts) (least (rule_in terms) plan (partition ts (place - 1))) (place - 1) t
    × (h ≡ shortage (task_load ts) (least (rule_in terms) plan (partition ts (place - 1))) (place - 1) t) × (1 ≤ h)

-- "any two outcomes it permits are equal"
abbrev pub PageOne : Type 0
PageOne =
    (terms : Terms) (plan ps ts : List ℕ) (place : ℕ) (list o o' : List ℕ) (r r' : Result Paged Refusal)
    → Pages terms plan ps ts place list o r → Pages terms plan ps ts place list o' r' → (r ≡ r') × (o ≡ o')

pub record Proved : Type 0 where
  pub page_answers : PageAnswers
  pub page_rows : PageRows
  pub page_tightest : PageTightest
  pub page_one : PageOne
