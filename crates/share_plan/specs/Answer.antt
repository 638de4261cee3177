-- What the program writes for a share table: the plan file, or one line. Assumes nothing.
use Rattle.std.specs.Prelude.{ℕ, ◌*◌, List, ◌++◌, eqb, length, unwrap_or, Result, Ok, Err}
use Rattle.rules.specs.Walk.{pick}
use Rattle.output.specs.Put.{Put}
use Rattle.rules.specs.Limits.{most_partitions, most_tasks, longest, part_width, task_width}
use Rattle.rules.specs.Terms.{given, wanted}
use Rattle.rules.specs.declared.Terms.{Terms}
use Rattle.rules.specs.Refusals.{told}
use Rattle.rules.specs.declared.Refusal.{Refusal}
use Rattle.tables.specs.Tables.{edition_judged, tables_of, unless}
use Rattle.theory.specs.Harmonic.{frame, harmonic_plan}
use Rattle.plan_check.specs.Check.{check_of}
use Rattle.plan_build.specs.Build.{build_of}
use Rattle.file_write.specs.Writer.{file_of, write_of}
use Rattle.file_runs.specs.Ticks.{runs_of}
use Rattle.output.specs.Text.{bytes}
use Rattle.output.specs.Decimal.{decimal}
use Rattle.output.specs.Refused.{refused_line}
use Rattle.share_words.specs.Words.{numeral}
use Rattle.share_line.specs.Expected.{expected_line}
use Rattle.share_text.specs.declared.Numbers.{Numbers}
use Rattle.share_text.specs.declared.Unread.{Unread}
use Rattle.share_text.specs.declared.Unread.TheVariants as unread
use Rattle.share_text.specs.Table.{part_in, task_in, records_of, granule_of, read_text_of}

-- the runs of the harmonic rule's plan, and the file of tables with it, of the edition asked for
abbrev pub plan_runs : Terms → List ℕ → List ℕ
plan_runs terms ps = runs_of (harmonic_plan (wanted terms ps) ps)

unfoldable pub plan_file : Terms → List ℕ → List ℕ → List ℕ
plan_file terms ps ts = file_of terms.edition (frame ps) ps ts (plan_runs terms ps)

-- a plan of h ticks is checked by the edition's rule, then written: document 02, ask 6, 9 where it falls short, else what the writer answers
abbrev pub checked_write : Terms → ℕ → List ℕ → List ℕ → List ℕ → ℕ → Result ℕ Refusal
checked_write terms h ps ts plan room = unless Err (check_of terms plan ps) (write_of terms.edition h ps ts (runs_of plan) room)

-- that of a built plan, and the builder's refusal
abbrev pub written_by : Result ℕ Refusal → Terms → List ℕ → List ℕ → ℕ → Result ℕ Refusal
written_by (Ok h) terms ps ts room = checked_write terms h ps ts (harmonic_plan (wanted terms ps) ps) room
written_by (Err r) terms ps ts room = Err r

unfoldable pub write_built_of : Terms → List ℕ → List ℕ → ℕ → Result ℕ Refusal
write_built_of terms ps ts room = written_by (build_of terms ps longest) terms ps ts room

-- the file's length or its refusal, for an output of room bytes: 2, 3, 21, 6, 7, then 10 and 11, then 9, then 12
unfoldable pub write_plan_of : Terms → List ℕ → List ℕ → ℕ → Result ℕ Refusal
write_plan_of terms ps ts room = unless Err (tables_of terms longest ps ts) (write_built_of terms ps ts room)

-- 9's line says what is short: "partition, start, held, wanted"
unfoldable pub short_line : ℕ → ℕ → ℕ → ℕ → List ℕ
short_line p s h w =
    bytes "refused 9 partition " ++ decimal p ++ (bytes " start " ++ decimal s) ++ (bytes " held " ++ decimal h)
    ++ (bytes " wanted " ++ decimal w) ++ bytes "\n"

-- every other "refused N"
unfoldable pub why_line : Refusal → List ℕ
why_line r = pick (eqb (told r).number 9) (short_line (told r).first (told r).second (told r).third (told r).fourth) (refused_line r)

-- the file, or the refusal's line
abbrev pub file_or : Result ℕ Refusal → List ℕ → List ℕ
file_or (Ok n) file = file
file_or (Err r) file = why_line r

unfoldable pub file_or_line : Terms → List ℕ → List ℕ → ℕ → List ℕ
file_or_line terms ps ts room = file_or (write_plan_of terms ps ts room) (plan_file terms ps ts)

-- of a text that can be read, what is said of its tables; else its line
abbrev pub answer_by : Result Numbers Unread → List ℕ → List ℕ
answer_by (Ok n) of_tables = of_tables
answer_by (Err (unread.Expected e)) of_tables = expected_line e.line e.what
answer_by (Err (unread.Refused r)) of_tables = refused_line r

-- 2 first of all, whatever the text; else by the edition asked for and the text's granule. The tables have room for as many records as there may be
unfoldable pub answer_of : ℕ → List ℕ → ℕ → List ℕ
answer_of e t room =
    unless refused_line (edition_judged e)
    (answer_by (read_text_of t (part_width * most_partitions) (task_width * most_tasks)) (file_or_line (given e (granule_of t)) (records_of part_in t) (records_of task_in t) room))

-- the answer r of the call, the length of what it puts, and o what the output then holds
abbrev pub Plans : ℕ → List ℕ → List ℕ → List ℕ → ℕ → Type 0
Plans e t out o r = Put out 0 (answer_of e t (length out)) r o

-- one more than any number that a word says
abbrev pub no_number : ℕ
no_number = 65536

-- the edition that a program is asked for, of so many words with its own name, w the one behind that: 1 without a word, the number that one word says, else none: `no_number` where it says no number, 0 where there are more
unfoldable pub edition_asked : ℕ → List ℕ → ℕ
edition_asked words w = pick (eqb words 1) 1 (pick (eqb words 2) (unwrap_or (numeral w) no_number) 0)
