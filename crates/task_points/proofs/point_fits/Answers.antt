use mathlib.Core.Path.{sym, ◌∙◌}
use Rattle.task_points.proofs.Points.{point_fits_lem, no_fit}
use Rattle.task_points.proofs.point_fits.Goals as goal

pub returns-then-fits : goal.returns-then-fits
returns-then-fits c = point_fits_lem _ _ _ _ _ _ c.requires.0 (sym c.fits.ensures ∙ c.if-fits.true) c.point_at.ensures

pub returns-else-fits : goal.returns-else-fits
returns-else-fits c = c.if-fits.false ∙ no_fit _ _ _ _ _ (sym c.fits.ensures ∙ c.if-fits.false)
