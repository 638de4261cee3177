use mathlib.Core.Path.{◌≡◌, sym, ◌∙◌}
use Rattle.std.proofs.Common.{rules, Err}
use Rattle.task_verdict.proofs.Orders.{tables-refused, tables-good}
use Rattle.task_verdict.proofs.answerable.Goals as goal

pub returns-in_err-judge_tables : goal.returns-in_err-judge_tables
returns-in_err-judge_tables c =
    let e : c.from_residual.result ≡ Err c.in_err-judge_tables.field-0.0 = search rules in
    e ∙ tables-refused _ _ _ _ _ _ (sym c.judge_tables.ensures ∙ c.in_err-judge_tables.was)

pub returns : goal.returns
returns c = tables-good _ _ _ _ _ _ (sym c.judge_tables.ensures ∙ c.in_ok-judge_tables.was) c.at_place.ensures
