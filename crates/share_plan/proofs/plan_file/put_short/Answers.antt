use Rattle.output.proofs.Put.{and_then}
use Rattle.share_plan.specs.Answer.{short_line}
use Rattle.share_plan.proofs.plan_file.put_short.Goals as goal

pub returns-clause-put : goal.returns-clause-put
unfolding short_line
returns-clause-put c = and_then (and_then (and_then (and_then c.put_field.ensures.put c.put_field-2.ensures.put) c.put_field-3.ensures.put) c.put_field-4.ensures.put) c.put_all.ensures.put
