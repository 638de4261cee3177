use mathlib.Core.Path.{sym, ◌∙◌}
use Rattle.file_read.specs.declared.Body.TheVariants.{Partitions, Tasks, Runs}
use Rattle.file_read.proofs.Reader.{inside}
use Rattle.file_read.proofs.load.load_file.Goals as goal

pub load_body-requires-clause-inside : goal.load_body-requires-clause-inside
load_body-requires-clause-inside c = inside _ _ (sym c.contents.ensures ∙ c.in_ok-c.was) Partitions

pub load_body-requires-2-clause-inside : goal.load_body-requires-2-clause-inside
load_body-requires-2-clause-inside c = inside _ _ (sym c.contents.ensures ∙ c.in_ok-c.was) Tasks

pub load_body-requires-3-clause-inside : goal.load_body-requires-3-clause-inside
load_body-requires-3-clause-inside c = inside _ _ (sym c.contents.ensures ∙ c.in_ok-c.was) Runs
