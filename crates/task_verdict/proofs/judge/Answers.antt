use mathlib.Core.Path.{◌≡◌, refl, sym, ◌∙◌}
use Rattle.std.proofs.Common.{rules, Err}
use Rattle.task_verdict.specs.Inner.{Asked}
use Rattle.task_verdict.proofs.Orders.{place_from_1, place_judgeable, found_none, found_by}
use Rattle.task_verdict.proofs.judge.Goals as goal

pub overflow_sub-place : goal.overflow_sub-place
overflow_sub-place g c = place_from_1 _ _ _ _ _ (sym c.answerable.ensures ∙ c.in_ok-answerable.was)

pub engine-requires : goal.engine-requires
unfolding Asked
engine-requires g c = let r = c.requires _ (place_judgeable _ _ _ _ _ (sym c.answerable.ensures ∙ c.in_ok-answerable.was)) in rw c.rule_of-rule.ensures r

pub returns-in_err-answerable : goal.returns-in_err-answerable
returns-in_err-answerable g c =
    let e : c.from_residual.result ≡ Err c.in_err-answerable.field-0.0 = search rules in
    found_none _ _ _ _ (sym c.answerable.ensures ∙ c.in_err-answerable.was) e

pub returns : goal.returns
returns g c = let f = rw c.rule_of-rule.ensures at c.engine.ensures in found_by _ _ _ _ (sym c.answerable.ensures ∙ c.in_ok-answerable.was) refl f
