use Rattle.share_line.proofs.expected.put_what.Goals as goal

pub returns-in-Record-clause-put : goal.returns-in-Record-clause-put
returns-in-Record-clause-put c = rw c.in-Record.is c.put_all.ensures.put

pub returns-in-EarlyGranule-clause-put : goal.returns-in-EarlyGranule-clause-put
returns-in-EarlyGranule-clause-put c = rw c.in-EarlyGranule.is c.put_all-in-EarlyGranule.ensures.put
