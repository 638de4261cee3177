use mathlib.Core.Path.{◌≡◌, refl, sym, ◌∙◌}
use Rattle.std.proofs.Common.{rules, Err}
use Rattle.task_verdict.proofs.Orders.{place_from_1, place_judgeable}
use Rattle.task_page.proofs.Fails.{paged_refused, paged-task, few_ticks}
use Rattle.task_page.proofs.page.Goals as goal

pub overflow_sub-place : goal.overflow_sub-place
overflow_sub-place c = place_from_1 _ _ _ _ _ (sym c.answerable.ensures ∙ c.in_ok-answerable.was)

pub page_of-requires : goal.page_of-requires
page_of-requires c = let g = sym c.answerable.ensures ∙ c.in_ok-answerable.was in (few_ticks _ _ _ _ _ g, place_judgeable _ _ _ _ _ g)

pub returns-in_err-answerable : goal.returns-in_err-answerable
returns-in_err-answerable c =
    let e : c.from_residual.result ≡ Err c.in_err-answerable.field-0.0 = search rules in
    (e ∙ paged_refused _ _ _ _ _ _ _ (sym c.answerable.ensures ∙ c.in_err-answerable.was), rw e refl)

pub returns : goal.returns
returns c = let g = sym c.answerable.ensures ∙ c.in_ok-answerable.was in
    let r = rw c.rule_of-rule.ensures at c.page_of.ensures in
    (paged-task _ _ _ _ _ _ g _ r.0, r.1)
