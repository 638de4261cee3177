use Rattle.output.proofs.Put.{and_then}
use Rattle.why_lines.proofs.Lines.{within, short-long}
use Rattle.why_lines.specs.Lines.{short_line}
use borrow.Author.Rules.{rules}
use Rattle.why_lines.proofs.put_short.Goals as goal

pub returns-clause-put : goal.returns-clause-put
unfolding short_line
returns-clause-put c = and_then (and_then (and_then c.put_tick.ensures.put (rw c.saturating_sub.ensures at c.put_field.ensures.put)) c.put_field-2.ensures.put) c.put_all.ensures.put

pub returns-clause-short : goal.returns-clause-short
returns-clause-short c = within (returns-clause-put c) (short-long c.args.size.tick c.args.size.needs c.args.size.has c.args.start (search rules) (search rules) (search rules) (search rules))
