use Rattle.output.proofs.Put.{and_then}
use Rattle.why_lines.proofs.Lines.{within, row-long}
use Rattle.why_lines.specs.Lines.{row_line}
use borrow.Author.Rules.{rules}
use Rattle.why_lines.proofs.put_row.Goals as goal

pub returns-clause-put : goal.returns-clause-put
unfolding row_line
returns-clause-put c = and_then (and_then c.put_columns.ensures.put c.put_window.ensures.put) (rw c.mark.ensures.0 at c.put_all.ensures.put)

pub returns-clause-short : goal.returns-clause-short
returns-clause-short c = within (returns-clause-put c) (row-long c.args.tightest c.args.size.tick c.args.size.needs c.args.size.has c.args.start (search rules) (search rules) (search rules) (search rules))
