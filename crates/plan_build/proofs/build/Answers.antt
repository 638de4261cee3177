use mathlib.Core.Path.{sym, ◌∙◌}
use Rattle.plan_build.proofs.Orders.{laid, layable}
use Rattle.rules.proofs.Named.{named-list}
use Rattle.plan_build.proofs.build.Goals as goal

pub lay-requires : goal.lay-requires
lay-requires c = let a = laid _ _ _ _ (sym c.build_answer.ensures ∙ c.in_ok-h.was) in (layable _ a.good, a.fits)

pub returns : goal.returns
returns c = let a = laid _ _ _ _ (sym c.build_answer.ensures ∙ c.in_ok-h.was) in
    (sym c.in_ok-h.was ∙ c.build_answer.ensures, rw (← a.is_frame) (named-list _ _ _ _ a.fits c.lay.ensures))
