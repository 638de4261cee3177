use Rattle.output.proofs.Put.{and_then}
use Rattle.file_lines.specs.Lines.{pass_line}
use Rattle.file_lines.proofs.put_pass.Goals as goal

pub returns-clause-put : goal.returns-clause-put
unfolding pass_line
returns-clause-put c = and_then (and_then (and_then c.put_task.ensures.put c.put_field.ensures.put) c.put_field-2.ensures.put) c.put_all.ensures.put
