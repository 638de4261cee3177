use Rattle.output.proofs.Put.{and_then}
use Rattle.why_lines.specs.Lines.{task_words}
use borrow.Author.Rules.{rules}
use Rattle.why_lines.proofs.put_task.Goals as goal

pub returns-clause-put : goal.returns-clause-put
unfolding task_words
returns-clause-put c = and_then (and_then c.put_field.ensures.put c.put_field-2.ensures.put) c.put_all.ensures.put

pub returns-clause-short : goal.returns-clause-short
returns-clause-short c = let p = c.put_all.ensures.put.place in search rules
