use Rattle.output.proofs.Put.{and_then}
use Rattle.file_lines.proofs.put_task.Goals as goal

pub returns-clause-put : goal.returns-clause-put
returns-clause-put c = and_then c.put_field.ensures.put c.put_field-2.ensures.put
