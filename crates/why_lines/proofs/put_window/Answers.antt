use Rattle.output.proofs.Put.{and_then}
use Rattle.why_lines.specs.Lines.{window}
use Rattle.why_lines.proofs.put_window.Goals as goal

pub returns-clause-put : goal.returns-clause-put
unfolding window
returns-clause-put c = and_then c.put_field.ensures.put (rw c.saturating_sub.ensures at c.put_field-2.ensures.put)
