use mathlib.Core.Path.{sym, ◌∙◌}
use Rattle.rules.proofs.First.{first_more, first_found}
use Rattle.task_plain.proofs.Ticks.{tick_fits_lem, from_1, found_in_time, none_in_time}
use borrow.Author.Rules.{rules}
use Rattle.task_plain.proofs.tick_in.Goals as goal

pub loop-t-init : goal.loop-t-init
loop-t-init c = from_1 _ _ _

pub returns-then-fits : goal.returns-then-fits
returns-then-fits c = found_in_time _ _ _ (search rules) (first_found _ _ _ (search rules) c.loop-t.invariant (tick_fits_lem _ _ _ _ _ c.loop-t.auto.t (sym c.fits.ensures ∙ c.if-fits.true)))

pub loop-t-preserved : goal.loop-t-preserved
loop-t-preserved c = first_more _ _ c.loop-t.invariant (tick_fits_lem _ _ _ _ _ c.loop-t.auto.t (sym c.fits.ensures ∙ c.if-fits.false))

pub returns : goal.returns
returns c = none_in_time _ _ _ (search rules) (search rules) c.loop-t.invariant
