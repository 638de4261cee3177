use Rattle.output.proofs.Put.{and_then}
use Rattle.file_lines.specs.Lines.{fail_line}
use Rattle.file_lines.proofs.put_fail.Goals as goal

pub returns-clause-put : goal.returns-clause-put
unfolding fail_line
returns-clause-put c = and_then c.put_task.ensures.put c.put_all.ensures.put
