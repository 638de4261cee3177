-- Laws of the lines, at the numbers that the code holds. Assumes nothing.
use Prim.Native.Nat.{ℕ, ◌+◌}
use mathlib.Core.Path.{◌≡◌, refl}
use mathlib.Core.Bool.{Bool, true, false}
use mathlib.Core.List.{List}
use lib.Dec.{leb}
use Rattle.std.specs.Prelude.{Option, None, Some}
use Rattle.rules.specs.Table.{partition, deadline, tasks}
use Rattle.rules.specs.declared.Rule.{Rule}
use Rattle.theory.specs.Task.{task_point}
use Rattle.rules.specs.Walk.{pick, gathered}
use Rattle.task_all.specs.declared.Times.{Times}
use Rattle.task_all.specs.Inner.{times_at, times_of, FoundAs}
use Rattle.file_lines.specs.Lines.{pass_line, fail_line}
use Rattle.rules.proofs.First.{gathered_ext}
use Rattle.file_page.specs.Page.{task_line}
use Rattle.file_page.specs.Inner.{line_with, line_by}

-- the lines by what was found for each task are the rules'
pub lines_are : (rule : Rule) (plan ts : List ℕ) (before found : List (Option Times)) → FoundAs (times_of rule plan ts) (tasks ts) before found
    → gathered (line_by ts found) (tasks ts) ≡ gathered (task_line rule plan ts) (tasks ts)
unfolding line_by task_line times_of times_at
lines_are rule plan ts before found v = gathered_ext (tasks ts) _ _ (λ j l. rw (v.done j l) (by (leb (task_point rule plan ts j) (deadline ts j)) _ _))
  where
    by : (b : Bool) (t : Times) (j : ℕ) → line_with (j + 1) (partition ts j) (pick b (Some t) None) ≡ pick b (pass_line (j + 1) (partition ts j) t.point t.tick) (fail_line (j + 1) (partition ts j))
    by true t j = refl
    by false t j = refl
