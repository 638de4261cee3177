-- The listing of a plan file, as a function of the file's bytes. Assumes nothing.
use Rattle.std.specs.Prelude.{ℕ, ◌≡◌, List, length, ltb, Result, Ok, Err}
use Rattle.rules.specs.Walk.{pick}
use Rattle.tables.specs.Tables.{unless}
use Rattle.rules.specs.Filling.{left_by}
use Rattle.rules.specs.declared.Refusal.TheVariants.{Output}
use Rattle.rules.specs.Terms.{filed, rule_of}
use Rattle.plan_check.specs.Check.{check_of}
use Rattle.file_read.specs.declared.Contents.{Contents}
use Rattle.file_read.specs.declared.Body.TheVariants.{Partitions, Tasks, Runs}
use Rattle.file_read.specs.Reader.{read_of, table_of}
use Rattle.file_runs.specs.Ticks.{ticks_of}
use Rattle.output.specs.Refused.{refused_line}
use Rattle.file_page.specs.Page.{page_of}
use Rattle.rules.specs.declared.Refusal.{Refusal}

-- of the tables of an accepted file, by its edition; "the listing program keeps g = 1"
unfoldable pub tables_lines : ℕ → ℕ → List ℕ → List ℕ → List ℕ → List ℕ
tables_lines e frame plan ps ts = unless refused_line (check_of (filed e) plan ps) (page_of (rule_of e) frame plan ps ts)

abbrev pub read_lines : Result Contents Refusal → List ℕ → List ℕ
read_lines (Ok c) b = tables_lines c.edition c.frame (ticks_of (table_of b Runs)) (table_of b Partitions) (table_of b Tasks)
read_lines (Err r) b = refused_line r

-- the listing of a file's bytes
unfoldable pub listing_of : List ℕ → List ℕ
listing_of b = read_lines (read_of b) b

-- "output shorter than needed", for an output of room bytes, or the text's length
unfoldable pub list_of : List ℕ → ℕ → Result ℕ Refusal
list_of b room = pick (ltb room (length (listing_of b))) (Err Output) (Ok (length (listing_of b)))

-- what the output holds after the call
abbrev pub listed_left : List ℕ → List ℕ → List ℕ
listed_left b out = left_by (list_of b (length out)) (listing_of b) out

-- the answer r of the call, and o what the output then holds
abbrev pub Lists : List ℕ → List ℕ → List ℕ → Result ℕ Refusal → Type 0
Lists b out o r = (r ≡ list_of b (length out)) × (o ≡ listed_left b out)
