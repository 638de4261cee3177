use Rattle.output.specs.Refused.{refused_line}
use Rattle.output.proofs.Put.{and_then}
use Rattle.output.proofs.Output+u8.put_refusal.Goals as goal

pub returns-clause-put : goal.returns-clause-put
unfolding refused_line
returns-clause-put c = rw (← c.from.ensures) (and_then c.put_field.ensures.put c.put_all.ensures.put)
