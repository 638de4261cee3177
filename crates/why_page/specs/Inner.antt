-- Words that only inner contracts use: no statement and no entry's contract cites them. Assumes nothing.
use Rattle.std.specs.Prelude.{ℕ, ◌-◌, ◌^◌, ◌≤◌, ◌<◌, ◌≡◌, List, length, Result}
use Rattle.rules.specs.Limits.{longest}
use Rattle.rules.specs.Table.{partition, deadline}
use Rattle.rules.specs.Terms.{filed, rule_of}
use Rattle.rules.specs.Walk.{gathered}
use Rattle.rules.specs.declared.Rule.{Rule}
use Rattle.theory.specs.Plan.{least}
use Rattle.theory.specs.Load.{demand}
use Rattle.theory.specs.Task.{task_load}
use Rattle.task_demand.specs.Inner.{Judgeable}
use Rattle.rules.specs.declared.Refusal.{Refusal}
use Rattle.task_page.specs.declared.Paged.{Paged}
use Rattle.task_page.specs.Page.{rows_of, points_of, tightest_of, page_of, page_left}
use Rattle.why_page.specs.Why.{line_of, most_numbers}

-- the tick t lies in the reach of task i, which can be judged on a frame within the limits
pub record InReach (plan ts : List ℕ) (i t : ℕ) : Type 0 where
  pub few_ticks : length plan ≤ longest
  pub judgeable : Judgeable ts i
  pub in_time : t ≤ deadline ts i

-- what task i needs of t ticks and what it can be sure of, in numbers that a line has room for
pub record Sized (rule : Rule) (plan ts : List ℕ) (i t needs has : ℕ) : Type 0 where
  pub needs_is : needs ≡ demand (task_load ts) i t
  pub has_is : has ≡ least rule plan (partition ts i) t
  pub needs_small : needs < 2 ^ 33
  pub has_small : has < 2 ^ 33

-- of task i, which fails, the n rows are at the start of a list, and the tightest point is u
pub record Rowed (rule : Rule) (plan ts : List ℕ) (i : ℕ) (rows : List ℕ) (n u : ℕ) : Type 0 where
  pub reach : InReach plan ts i u
  pub tight : u ≡ tightest_of rule plan ts i
  pub few : n ≤ longest
  pub long : length rows ≡ most_numbers
  pub lines : gathered (line_of u rows) n ≡ gathered (line_of (tightest_of rule plan ts i) (rows_of rule plan ts i)) (points_of ts i)

-- r is what the page answers, and rows what a list of so many numbers held then
pub record PagedSo (e : ℕ) (plan ps ts : List ℕ) (place : ℕ) (rows : List ℕ) (r : Result Paged Refusal) : Type 0 where
  pub answer : r ≡ page_of (filed e) plan ps ts place most_numbers
  pub long : length rows ≡ most_numbers
  pub list : List ℕ
  pub left : rows ≡ page_left r (rows_of (rule_of e) plan ts (place - 1)) list
