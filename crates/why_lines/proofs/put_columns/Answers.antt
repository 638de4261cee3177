use Rattle.output.proofs.Put.{and_then}
use Rattle.why_lines.specs.Lines.{columns}
use Rattle.why_lines.proofs.put_columns.Goals as goal

pub returns-clause-put : goal.returns-clause-put
unfolding columns
returns-clause-put c = and_then (and_then (and_then c.put_column.ensures.put c.put_column-2.ensures.put) c.put_column-3.ensures.put) (rw c.saturating_sub.ensures at c.put_column-4.ensures.put)
