-- What is told of a part of a file. Assumes nothing.
use Rattle.std.specs.Prelude.{ℕ, eqb, Option, None, Some, Result}
use Rattle.rules.specs.Walk.{pick}
use Rattle.rules.specs.declared.Refusal.{Refusal}
use Rattle.rules.specs.declared.Told.{Told}
use Rattle.rules.specs.Refusals.{telling, told_by}
use Rattle.file_read.specs.declared.Contents.{Contents}
use Rattle.file_read.specs.declared.Stretch.{Stretch}
use Rattle.file_read.specs.declared.Body.{Body}
use Rattle.file_read.specs.declared.Body.TheVariants.{Partitions, Tasks, Runs}
use Rattle.file_read.specs.Reader.{body_of}

-- 0 for partitions, 1 for tasks, 2 for runs
abbrev pub named_part : ℕ → Option Body
named_part which = pick (eqb which 0) (Some Partitions) (pick (eqb which 1) (Some Tasks) (pick (eqb which 2) (Some Runs) None))

abbrev pub lies_at : Contents → Option Body → Stretch
lies_at c (Some body) = body_of c body
lies_at c None = record { offset = 0; end = 0 }

-- the part of a file with these contents that a number stands for; of any other number the empty part
abbrev pub part_at : ℕ → Contents → Stretch
part_at which c = lies_at c (named_part which)

-- 0 with where the part starts and ends
abbrev pub told_range : Stretch → Told
told_range r = telling 0 r.offset r.end 0 0

-- the same of a file that is read, or the reader's refusal
abbrev pub told_part : ℕ → Result Contents Refusal → Told
told_part which = told_by (λ c. told_range (part_at which c))
