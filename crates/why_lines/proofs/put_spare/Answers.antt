use Rattle.output.proofs.Put.{and_then}
use Rattle.why_lines.proofs.Lines.{within, spare_long}
use Rattle.why_lines.specs.Lines.{spare_line}
use borrow.Author.Rules.{rules}
use Rattle.why_lines.proofs.put_spare.Goals as goal

pub returns-clause-put : goal.returns-clause-put
unfolding spare_line
returns-clause-put c = and_then (and_then c.put_tick.ensures.put (rw c.saturating_sub.ensures at c.put_field.ensures.put)) c.put_all.ensures.put

pub returns-clause-short : goal.returns-clause-short
returns-clause-short c = within (returns-clause-put c) (spare_long c.args.size.tick c.args.size.needs c.args.size.has (search rules) (search rules) (search rules))
