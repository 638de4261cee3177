-- What is promised of a task's page as text beyond its contract. Each statement's proof is a field of `Proved`. Assumes nothing.
use Rattle.std.specs.Prelude.{ℕ, ◌+◌, ◌-◌, ◌<◌, ◌≡◌, true, List, [], ◌∷◌, ◌++◌, eqb, take, None, Ok}
use Prim.Native.Char.{code}
use Rattle.rules.specs.Limits.{longest_file, row_width}
use Rattle.rules.specs.Walk.{only}
use Rattle.rules.specs.Table.{field_at, partition}
use Rattle.rules.specs.Terms.{filed, rule_of}
use Rattle.rules.specs.declared.Rule.{Rule}
use Rattle.theory.specs.Plan.{least, worst_start}
use Rattle.theory.specs.Load.{demand, point}
use Rattle.theory.specs.Task.{task_load}
use Rattle.theory.specs.Theorems.{TightestPoint}
use Rattle.task_verdict.specs.Verdict.{verdict_of}
use Rattle.task_page.specs.declared.Paged.TheVariants.{Pass, Fail}
use Rattle.task_page.specs.Page.{rows_of, points_of, tightest_of, shortage_of, page_of}
use Rattle.output.specs.Put.{Put}
use Rattle.why_lines.specs.Lines.{passes_line, row_line, spare_line}
use Rattle.why_page.specs.Why.{line_of, most_numbers, tables_text, why_of}

-- how many lines a text has
unfoldable pub lines_in : List ℕ → ℕ
lines_in [] = 0
lines_in (b ∷ s) = only (eqb b (code "\n")) 1 + lines_in s

-- a fail has a line for each scheduling point, and three more: the task's, that of the columns' names, and the sentence
abbrev pub FailLines : Type 0
FailLines =
    (e : ℕ) (plan ps ts : List ℕ) (place n u h : ℕ) → page_of (filed e) plan ps ts place most_numbers ≡ Ok (Fail n u h)
    → (n ≡ points_of ts (place - 1)) × (lines_in (tables_text e plan ps ts place) ≡ n + 3)

-- the line of the point t: what the task needs there by the rules, what it can be sure of, and the lowest worst start
abbrev pub point_line : Rule → List ℕ → List ℕ → ℕ → ℕ → ℕ → List ℕ
point_line rule plan ts i u t = row_line u t (demand (task_load ts) i t) (least rule plan (partition ts i) t) (worst_start rule plan (partition ts i) t)

-- the point of row k
abbrev pub point_of : Rule → List ℕ → List ℕ → ℕ → ℕ → ℕ
point_of rule plan ts i k = field_at row_width (rows_of rule plan ts i) k 0

-- "for each scheduling point in rising order": a line
pub record LineForEach (rule : Rule) (plan ts : List ℕ) (i u : ℕ) : Type 0 where
  pub line :
      (k : ℕ) → k < points_of ts i
      → (point (task_load ts) i (point_of rule plan ts i k) ≡ true) × (line_of u (rows_of rule plan ts i) k ≡ point_line rule plan ts i u (point_of rule plan ts i k))
  pub rising : (j k : ℕ) → j < k → k < points_of ts i → point_of rule plan ts i j < point_of rule plan ts i k
  pub each_point : (t : ℕ) → point (task_load ts) i t ≡ true → (k : ℕ) × (k < points_of ts i) × (point_of rule plan ts i k ≡ t)

abbrev pub FailRows : Type 0
FailRows = (rule : Rule) (plan ts : List ℕ) (i u : ℕ) → LineForEach rule plan ts i u

-- a fail's sentence is about the point that ask 7 names, and something is short there
abbrev pub FailShort : Type 0
FailShort =
    (e : ℕ) (plan ps ts : List ℕ) (place n u h : ℕ) → page_of (filed e) plan ps ts place most_numbers ≡ Ok (Fail n u h)
    → TightestPoint (task_load ts) (least (rule_of e) plan (partition ts (place - 1))) (place - 1) u
    × (least (rule_of e) plan (partition ts (place - 1)) u < demand (task_load ts) (place - 1) u)

-- and one line has the mark: that of the tightest point
abbrev pub OneMark : Type 0
OneMark =
    (e : ℕ) (plan ps ts : List ℕ) (place n u h : ℕ) → page_of (filed e) plan ps ts place most_numbers ≡ Ok (Fail n u h)
    → (k : ℕ) × (k < n) × (point_of (rule_of e) plan ts (place - 1) k ≡ u)
    × ((j : ℕ) → j < n → point_of (rule_of e) plan ts (place - 1) j ≡ u → j ≡ k)

-- a pass's text, and that what it says to be to spare is what its need leaves of what it can be sure of
abbrev pub PassSpare : Type 0
PassSpare =
    (e : ℕ) (plan ps ts : List ℕ) (place t : ℕ) → page_of (filed e) plan ps ts place most_numbers ≡ Ok (Pass t)
    → (tables_text e plan ps ts place
    ≡ passes_line place (partition ts (place - 1)) ++ spare_line t (demand (task_load ts) (place - 1) t) (least (rule_of e) plan (partition ts (place - 1)) t))
    × (demand (task_load ts) (place - 1) t
    + (least (rule_of e) plan (partition ts (place - 1)) t - demand (task_load ts) (place - 1) t)
    ≡ least (rule_of e) plan (partition ts (place - 1)) t)

-- there is room for every page: where the verdict is a fail it is printed, and never 12
abbrev pub RoomEnough : Type 0
RoomEnough =
    (e : ℕ) (plan ps ts : List ℕ) (place : ℕ) → verdict_of (filed e) plan ps ts place ≡ (Ok None)
    → page_of (filed e) plan ps ts place most_numbers
    ≡ Ok (Fail (points_of ts (place - 1)) (tightest_of (rule_of e) plan ts (place - 1)) (shortage_of (rule_of e) plan ts (place - 1)))

-- the text of a file is that of its first bytes, where these are more than any plan file has: a program that reads one byte more than the longest file
-- answers to what came in, however long that is
abbrev pub WhyFirst : Type 0
WhyFirst = (b : List ℕ) (place n : ℕ) → longest_file < n → why_of (take n b) place ≡ why_of b place

-- "any two outcomes it permits are equal"
abbrev pub WhyOne : Type 0
WhyOne = (b out o o' : List ℕ) (place r r' : ℕ) → Put out 0 (why_of b place) r o → Put out 0 (why_of b place) r' o' → (r ≡ r') × (o ≡ o')

pub record Proved : Type 0 where
  pub fail_lines : FailLines
  pub fail_rows : FailRows
  pub fail_short : FailShort
  pub one_mark : OneMark
  pub pass_spare : PassSpare
  pub room_enough : RoomEnough
  pub why_first : WhyFirst
  pub why_one : WhyOne
