use Rattle.output.proofs.Put.{and_then}
use Rattle.why_page.specs.Why.{fail_text}
use borrow.Author.Rules.{rules}
use Rattle.why_page.proofs.put_failing.Goals as goal

pub returns-clause-put : goal.returns-clause-put
unfolding fail_text
returns-clause-put c = let g = c.requires.1 in and_then (and_then (and_then (rw c.partition_of.ensures at c.put_fails.ensures.put) c.put_names.ensures.put) (rw g.lines at c.put_lines.ensures.put)) (rw g.tight at c.put_short.ensures.put)

pub returns-clause-short : goal.returns-clause-short
returns-clause-short c = let f = c.requires.1.few in search rules
