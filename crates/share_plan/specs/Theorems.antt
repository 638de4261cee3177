-- What is promised of the planner beyond its contract. Each statement's proof is a field of `Proved`. Assumes nothing.
use Rattle.std.specs.Prelude.{ℕ, ◌≤◌, ◌<◌, ◌≡◌, ◌↔◌, List, length, take, Result, Ok, Err}
use Rattle.rules.specs.Limits.{longest, longest_file}
use Rattle.rules.specs.Table.{partitions, tasks}
use Rattle.rules.specs.Terms.{granules, filed, rule_in, wanted}
use Rattle.rules.specs.declared.Terms.{Terms}
use Rattle.tables.specs.Tables.{GoodTables}
use Rattle.theory.specs.Plan.{Serves}
use Rattle.theory.specs.Harmonic.{Harmonic, frame, all_wanted, harmonic_plan}
use Rattle.rules.specs.Refusals.{told}
use Rattle.rules.specs.declared.Refusal.{Refusal}
use Rattle.plan_check.specs.Check.{check_of}
use Rattle.plan_check.specs.Theorems.{FallsShort}
use Rattle.file_read.specs.declared.Body.TheVariants as body
use Rattle.file_read.specs.Reader as file
use Rattle.file_tables.specs.Runs.{runs}
use Rattle.file_write.specs.Writer.{size_for}
use Rattle.file_runs.specs.Ticks.{ticks_of}
use Rattle.share_text.specs.declared.Numbers.{Numbers}
use Rattle.share_text.specs.declared.Unread.{Unread}
use Rattle.share_text.specs.Table.{longest_text, ReadsText}
use Rattle.share_plan.specs.Answer.{plan_runs, plan_file, write_plan_of, answer_of, Plans}

-- a file that comes out is accepted by the reader, with the edition asked for, the table's records and the harmonic rule's plan; and by the checker, in its edition, with the same granule,
-- and with 1: so a listing, which keeps g = 1, never refuses it
abbrev pub FileServes : Type 0
FileServes =
    (terms : Terms) (ps ts : List ℕ) (room n : ℕ) → write_plan_of terms ps ts room ≡ Ok n
    → (length (plan_file terms ps ts) ≡ n)
    × (file.read_of (plan_file terms ps ts) ≡ Ok (record { edition = terms.edition; frame = frame ps; partitions = partitions ps; tasks = tasks ts; runs = runs (plan_runs terms ps) }))
    × (file.table_of (plan_file terms ps ts) body.Partitions ≡ ps)
    × (file.table_of (plan_file terms ps ts) body.Tasks ≡ ts)
    × (ticks_of (file.table_of (plan_file terms ps ts) body.Runs) ≡ harmonic_plan (wanted terms ps) ps)
    × (check_of terms (ticks_of (file.table_of (plan_file terms ps ts) body.Runs)) (file.table_of (plan_file terms ps ts) body.Partitions) ≡ (Ok tt))
    × (check_of (filed terms.edition) (ticks_of (file.table_of (plan_file terms ps ts) body.Runs)) (file.table_of (plan_file terms ps ts) body.Partitions) ≡ (Ok tt))

-- the records are good, the cycles harmonic, the ticks enough, and the output of room bytes is long enough for the file's n
abbrev pub Writable : Terms → List ℕ → List ℕ → ℕ → ℕ → Type 0
Writable terms ps ts room n =
    GoodTables terms longest ps ts × Harmonic ps × (all_wanted (wanted terms ps) ps (frame ps) ≤ frame ps) × (n ≡ size_for ps ts (plan_runs terms ps)) × (n ≤ room)

-- a file comes out exactly then, if the plan serves by the edition's rule: the writer refuses no plan of the builder
abbrev pub FileExactly : Type 0
FileExactly =
    (terms : Terms) (ps ts : List ℕ) (room n : ℕ)
    → (write_plan_of terms ps ts room ≡ Ok n) ↔ (Writable terms ps ts room n × Serves (rule_in terms) (wanted terms ps) (harmonic_plan (wanted terms ps) ps) ps)

-- in edition 1 it always does: "What the harmonic rule writes is always accepted"
abbrev pub FileInEdition1 : Type 0
FileInEdition1 = (g : ℕ) (ps ts : List ℕ) (room n : ℕ) → (write_plan_of (granules g) ps ts room ≡ Ok n) ↔ Writable (granules g) ps ts room n

-- document 02, ask 6: 9 where the built plan falls short by the edition's rule, with what is short
abbrev pub ShortInEdition : Type 0
ShortInEdition =
    (terms : Terms) (ps ts : List ℕ) (room : ℕ) (r : Refusal) → write_plan_of terms ps ts room ≡ Err r → (told r).number ≡ 9
    → FallsShort (rule_in terms) (wanted terms ps) (harmonic_plan (wanted terms ps) ps) ps (told r).first (told r).second (told r).third (told r).fourth

-- the answer to a text is that to its first bytes, where these are more than a text may have: a program that reads one byte more than the longest text
-- answers what came in, however long that is
abbrev pub AnswerFirst : Type 0
AnswerFirst = (e : ℕ) (t : List ℕ) (n room : ℕ) → longest_text < n → answer_of e (take n t) room ≡ answer_of e t room

-- an output of the longest file's bytes is as good as any longer one: no answer is 12 for want of room
abbrev pub AnswerRoom : Type 0
AnswerRoom = (e : ℕ) (t : List ℕ) (room : ℕ) → longest_file ≤ room → answer_of e t room ≡ answer_of e t longest_file

-- "any two outcomes it permits are equal", of the planner and of the share table's reader
abbrev pub OneAnswer : Type 0
OneAnswer = (e : ℕ) (t out o o' : List ℕ) (r r' : ℕ) → Plans e t out o r → Plans e t out o' r' → (r ≡ r') × (o ≡ o')

abbrev pub TextOne : Type 0
TextOne =
    (t parts tasks p p' q q' : List ℕ) (r r' : Result Numbers Unread) → ReadsText t parts tasks p q r → ReadsText t parts tasks p' q' r'
    → (r ≡ r') × (p ≡ p') × (q ≡ q')

pub record Proved : Type 0 where
  pub file_serves : FileServes
  pub file_exactly : FileExactly
  pub file_in_edition_1 : FileInEdition1
  pub short_in_edition : ShortInEdition
  pub answer_first : AnswerFirst
  pub answer_room : AnswerRoom
  pub one_answer : OneAnswer
  pub text_one : TextOne
