use Rattle.output.proofs.Put.{and_then}
use Rattle.why_lines.specs.Lines.{tick_words}
use Rattle.why_lines.proofs.put_tick.Goals as goal

pub returns-clause-put : goal.returns-clause-put
unfolding tick_words
returns-clause-put c = and_then (and_then c.put_field.ensures.put c.put_field-2.ensures.put) c.put_field-3.ensures.put
