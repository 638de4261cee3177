use Rattle.output.proofs.Put.{and_then}
use Rattle.file_lines.specs.Lines.{frame_line}
use Rattle.file_lines.proofs.put_frame.Goals as goal

pub returns-clause-put : goal.returns-clause-put
unfolding frame_line
returns-clause-put c = and_then c.put_field.ensures.put c.put_all.ensures.put
