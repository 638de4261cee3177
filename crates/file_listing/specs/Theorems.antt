-- What is promised of the listing beyond its contract. `list_of` and `listed_left` are what the contract says that it answers and leaves. Each statement's
-- proof is a field of `Proved`. Assumes nothing.
use Rattle.std.specs.Prelude.{ℕ, ◌+◌, ◌<◌, ◌≡◌, ◌⊎◌, List, length, take, None, Some, Result, Ok, Err}
use Rattle.rules.specs.Limits.{longest_file}
use Rattle.rules.specs.Table.{partitions, partition, tasks}
use Rattle.rules.specs.Refusals.{told}
use Rattle.rules.specs.declared.Refusal.{Refusal}
use Rattle.rules.specs.Terms.{filed, rule_of}
use Rattle.plan_check.specs.Check.{check_of}
use Rattle.task_verdict.specs.Verdict.{verdict_of, plain_of}
use Rattle.file_lines.specs.Lines.{pass_line, fail_line}
use Rattle.file_page.specs.Page.{task_line}
use Rattle.file_read.specs.declared.Contents.{Contents}
use Rattle.file_read.specs.declared.Body.TheVariants.{Partitions, Tasks, Runs}
use Rattle.file_read.specs.Reader.{read_of, table_of}
use Rattle.file_runs.specs.Ticks.{ticks_of}
use Rattle.file_listing.specs.Listing.{listing_of, Lists}

-- the plan of a file, as ticks
abbrev pub plan_in : List ℕ → List ℕ
plan_in b = ticks_of (table_of b Runs)

-- a line for the frame's ticks, each partition and each task that the contents give
abbrev pub ListingCounts : Type 0
ListingCounts =
    (b : List ℕ) (c : Contents) → read_of b ≡ Ok c
    → (length (plan_in b) ≡ c.frame) × (partitions (table_of b Partitions) ≡ c.partitions) × (tasks (table_of b Tasks) ≡ c.tasks)

-- in edition e the line of the task at place j from 0 is that of both engines' answers: they pass at the point and the tick that it says, or both fail
abbrev pub LineOfBoth : ℕ → List ℕ → List ℕ → List ℕ → ℕ → Type 0
LineOfBoth e plan ps ts j =
    ((t : ℕ) × (u : ℕ) × (verdict_of (filed e) plan ps ts (j + 1) ≡ Ok (Some t)) × (plain_of (filed e) plan ps ts (j + 1) ≡ Ok (Some u))
    × (task_line (rule_of e) plan ts j ≡ pass_line (j + 1) (partition ts j) t u))
    ⊎ ((verdict_of (filed e) plan ps ts (j + 1) ≡ (Ok None)) × (plain_of (filed e) plan ps ts (j + 1) ≡ (Ok None)) × (task_line (rule_of e) plan ts j ≡ fail_line (j + 1) (partition ts j)))

-- in a file whose plan serves every task's line is so
abbrev pub ListingVerdicts : Type 0
ListingVerdicts =
    (b : List ℕ) (c : Contents) (j : ℕ) → read_of b ≡ Ok c → check_of (filed c.edition) (plan_in b) (table_of b Partitions) ≡ (Ok tt) → j < c.tasks
    → LineOfBoth c.edition (plan_in b) (table_of b Partitions) (table_of b Tasks) j

-- after a good read only 9 can follow
abbrev pub OnlyNine : Type 0
OnlyNine =
    (b : List ℕ) (c : Contents) (r : Refusal) → read_of b ≡ Ok c → check_of (filed c.edition) (plan_in b) (table_of b Partitions) ≡ Err r
    → (told r).number ≡ 9

-- the listing of a file is that of its first bytes, where these are more than any plan file has: a program that reads one byte more than the longest
-- file lists what came in, however long that is
abbrev pub ListingFirst : Type 0
ListingFirst = (b : List ℕ) (n : ℕ) → longest_file < n → listing_of (take n b) ≡ listing_of b

-- "any two outcomes it permits are equal"
abbrev pub ListingOne : Type 0
ListingOne = (b out o o' : List ℕ) (r r' : Result ℕ Refusal) → Lists b out o r → Lists b out o' r' → (r ≡ r') × (o ≡ o')

pub record Proved : Type 0 where
  pub listing_counts : ListingCounts
  pub listing_verdicts : ListingVerdicts
  pub only_nine : OnlyNine
  pub listing_first : ListingFirst
  pub listing_one : ListingOne
