use mathlib.Core.Path.{sym, ◌∙◌}
use Rattle.rules.proofs.Known.{edition_given}
use Rattle.rules.proofs.Named.{named-list}
use Rattle.plan_curve.proofs.Answers.{enough}
use Rattle.plan_curve.proofs.curve.Goals as goal

pub returns : goal.returns
returns c =
    let g = edition_given _ _ (sym c.try_from.ensures ∙ c.in_ok-rule.was) in
    (enough _ _ _ g.0 c.if-list-needed.false, named-list _ _ _ _ c.if-list-needed.false (rw (c.from.ensures, g.1) at c.draw.ensures))
