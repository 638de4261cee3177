use mathlib.Core.Path.{◌∙◌}
use Rattle.counts.proofs.Passes.{rows-turn}
use Rattle.counts_rows.proofs.fill_rows.Goals as goal

pub loop-p-preserved : goal.loop-p-preserved
loop-p-preserved c = (c.fill_row.ensures.as_long ∙ c.loop-p.invariant.0, rows-turn _ _ _ _ _ c.loop-p.invariant.1 c.fill_row.ensures)
