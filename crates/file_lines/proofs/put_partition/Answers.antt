use Rattle.output.proofs.Put.{and_then}
use Rattle.file_lines.specs.Lines.{partition_line}
use Rattle.file_lines.proofs.put_partition.Goals as goal

pub returns-clause-put : goal.returns-clause-put
unfolding partition_line
returns-clause-put c = and_then (and_then (and_then (and_then c.put_field.ensures.put c.put_field-2.ensures.put) c.put_field-3.ensures.put) c.put_field-4.ensures.put) c.put_all.ensures.put
