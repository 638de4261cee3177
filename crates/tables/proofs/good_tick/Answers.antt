use Rattle.tables.proofs.good_tick.Goals as goal

pub returns : goal.returns
returns c = rw (c.from.ensures, c.entry.ensures)
