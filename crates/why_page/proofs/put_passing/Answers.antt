use Rattle.output.proofs.Put.{and_then}
use Rattle.why_page.specs.Why.{pass_text}
use Rattle.why_page.proofs.put_passing.Goals as goal

pub returns-clause-put : goal.returns-clause-put
unfolding pass_text
returns-clause-put c = and_then (rw c.partition_of.ensures at c.put_passes.ensures.put) c.put_spare.ensures.put
