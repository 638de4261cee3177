use mathlib.Core.Path.{refl, ◌∙◌}
use Rattle.output.proofs.Put.{lines_none, lines_more}
use borrow.Author.Rules.{rules}
use Rattle.file_page.proofs.put_parts.Goals as goal

pub loop-k-init : goal.loop-k-init
loop-k-init c = (refl, lines_none _ _ _, search rules)

pub loop-k-preserved : goal.loop-k-preserved
loop-k-preserved c = (c.put_part.ensures.same_reference ∙ c.loop-k.invariant.0, lines_more _ _ c.loop-k.invariant.1 c.put_part.ensures.put, search rules)
