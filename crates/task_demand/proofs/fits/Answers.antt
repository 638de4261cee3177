use Rattle.task_demand.specs.Inner.{fits_at}
use Rattle.task_demand.proofs.fits.Goals as goal

pub returns : goal.returns
unfolding fits_at
returns c = rw c.from.ensures
