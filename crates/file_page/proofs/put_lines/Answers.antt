use mathlib.Core.Path.{refl, ◌∙◌}
use Rattle.output.proofs.Put.{lines_none, lines_more}
use borrow.Author.Rules.{rules}
use Rattle.file_page.proofs.put_lines.Goals as goal

pub loop-j-init : goal.loop-j-init
loop-j-init c = (refl, lines_none _ _ _, search rules)

pub loop-j-preserved : goal.loop-j-preserved
loop-j-preserved c = (c.put_task.ensures.same_reference ∙ c.loop-j.invariant.0, lines_more _ _ c.loop-j.invariant.1 c.put_task.ensures.put, search rules)
